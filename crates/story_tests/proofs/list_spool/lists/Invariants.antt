use Rattle.std.proofs.Common.{◌≡◌, All, length, vec_capacity}
use Rattle.story_tests.specs.ListSpools.{IsSpare}
use Rattle.story_tests.proofs.list_spool.lists.Given as goal

abbrev pub invariant-loop : goal.invariant-loop
invariant-loop l = record {
  count : length l.lists.items ≡ l.counter;
  spare : All (IsSpare l.fn.limit) l.lists.items;
  room : vec_capacity l.lists ≡ l.fn.count;
}

use Rattle.std.proofs.Common.{◌≡◌, ◌+◌, ◌++◌, [], replicate}
use Rattle.heap_log.proofs.page_heads.push_empty.Given as goal

abbrev pub invariant-loop : goal.invariant-loop
invariant-loop l = record {
  items : l.pages.items ≡ l.fn.pages.items ++ replicate l.counter [];
  room : l.pages.room + l.counter ≡ l.fn.pages.room;
}

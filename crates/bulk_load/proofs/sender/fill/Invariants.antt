use Rattle.std.proofs.Common.{◌≡◌, ◌≤◌, ◌++◌, length}
use Rattle.std.specs.VecDeque.{deque_capacity}
use Rattle.bulk_load.proofs.sender.fill.Given as goal

abbrev pub invariant-loop : goal.invariant-loop
invariant-loop g l = record {
  all : g.X.Source.left l.initial.source ≡ l.pairs.items ++ g.X.Source.left l.source;
  count : length l.pairs.items ≤ l.counter;
  room : l.room ≤ deque_capacity l.pairs;
  kept : g.X.Source.kept l.source ≡ g.X.Source.kept l.initial.source;
}

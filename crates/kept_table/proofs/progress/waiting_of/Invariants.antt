use Rattle.std.proofs.Common.{◌≡◌}
use Rattle.std.specs.Prelude.{min}
use Rattle.kept_table.specs.Progresses.{unfed_below}
use Rattle.kept_table.proofs.progress.waiting_of.Given as goal

abbrev pub invariant-loop-index : goal.invariant-loop-index
invariant-loop-index g l = l.waiting ≡ min (unfed_below l.core.live.heap.log l.core.live.build l.index) 18446744073709551615

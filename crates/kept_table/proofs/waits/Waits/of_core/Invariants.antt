use Rattle.std.proofs.Common.{◌≡◌, ℕ, ◌<◌, length}
use Rattle.std.specs.Prelude.{get_or}
use Rattle.kept_table.specs.Progresses.{unfed_at}
use Rattle.kept_table.proofs.waits.Waits.of_core.Given as goal

abbrev pub invariant-loop-index : goal.invariant-loop-index
invariant-loop-index g l =
    (length l.of ≡ 8) × ((k : ℕ) → k < l.index → get_or l.of k 0 ≡ unfed_at l.core.live.heap.log l.core.live.build k)

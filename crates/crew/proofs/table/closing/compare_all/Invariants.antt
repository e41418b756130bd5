use Rattle.std.proofs.Common.{◌≡◌, All, vec_len}
use mathlib.Core.List.{IsPrefix}
use Rattle.crew.proofs.table.closing.compare_all.Given as goal

abbrev pub invariant-loop-receipt : goal.invariant-loop-receipt
invariant-loop-receipt g l = record {
  same : l.locked.state ≡ l.initial.locked.state;
  begin : All (λ r. IsPrefix r l.initial.locked.state.heap.log) l.left.items → All (λ r. IsPrefix r l.initial.locked.state.heap.log) l.initial.left.items;
}

abbrev pub decreases-loop-receipt : goal.decreases-loop-receipt
decreases-loop-receipt g l = vec_len l.left

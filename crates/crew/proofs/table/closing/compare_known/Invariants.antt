use Rattle.std.proofs.Common.{◌≡◌, All, vec_len}
use mathlib.Core.List.{IsPrefix}
use Rattle.crew.proofs.table.closing.compare_known.Given as goal

abbrev pub invariant-loop-known : goal.invariant-loop-known
invariant-loop-known g l = record {
  same : l.locked.state ≡ l.initial.locked.state;
  begin : All (λ k. IsPrefix k l.initial.locked.state.heap.log) l.left.items → All (λ k. IsPrefix k l.initial.locked.state.heap.log) l.initial.left.items;
}

abbrev pub decreases-loop-known : goal.decreases-loop-known
decreases-loop-known g l = vec_len l.left

use Rattle.std.proofs.Common.{◌≡◌, ◌≢◌, ◌<◌, ◌+◌, ◌*◌, ℕ, length, get_or, set, drop}
use Rattle.std.specs.Prelude.{max}
use Rattle.heap_table.proofs.room_tree.set_leaf.Given as goal

abbrev pub invariant-loop-node : goal.invariant-loop-node
invariant-loop-node l = record {
  some : 0 < l.node;
  inside : l.node < 2 * l.leaves;
  others : (n : ℕ) → 0 < n → 2 * n + 1 < length l.nodes → 2 * n ≢ l.node → 2 * n + 1 ≢ l.node →
      get_or l.nodes n 0 ≡ max (get_or l.nodes (2 * n) 0) (get_or l.nodes (2 * n + 1) 0);
  leaves : drop l.leaves l.nodes ≡ set (drop l.leaves l.fn.nodes) l.page l.room;
}

abbrev pub decreases-loop-node : goal.decreases-loop-node
decreases-loop-node l = l.node

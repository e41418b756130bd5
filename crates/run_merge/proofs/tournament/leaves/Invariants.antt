use Rattle.std.proofs.Common.{◌≡◌, ℕ, ◌+◌, ◌*◌, ◌<◌, length, get_or}
use Rattle.run_merge.proofs.tournament.leaves.Given as goal

abbrev pub invariant-loop-leaf : goal.invariant-loop-leaf
invariant-loop-leaf l = record {
  long : length l.nodes.items ≡ 2 * l.count;
  inside : (n : ℕ) → n < length l.nodes.items → get_or l.nodes.items n 0 < l.count;
  leaves : (k : ℕ) → k < l.leaf → get_or l.nodes.items (l.count + k) 0 ≡ k;
}

use Rattle.std.proofs.Common.{◌≡◌, ℕ, ◌+◌, ◌<◌, ◌≤◌, length}
use Rattle.run_merge.specs.Leading.{NoneDone}
use Rattle.run_merge.specs.Tournaments.{HasLeaves, IsPlayed}
use Rattle.run_merge.proofs.tournament.play_all.Given as goal

abbrev pub invariant-loop-node : goal.invariant-loop-node
invariant-loop-node l = record {
  some : 0 < length l.heads → 0 < l.node;
  inside : l.node ≤ length l.heads;
  tree : HasLeaves l.heads l.nodes;
  done : (n : ℕ) → 0 < n → l.node ≤ n → n < length l.heads → IsPlayed l.heads l.nodes n;
  compares : l.compares + l.node ≤ length l.heads;
  counted : NoneDone l.heads → l.compares + l.node ≡ length l.heads;
}

abbrev pub decreases-loop-node : goal.decreases-loop-node
decreases-loop-node l = l.node

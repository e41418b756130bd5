use Rattle.std.proofs.Common.{◌≤◌, ◌-◌, length}
use Rattle.tree_nodes.proofs.separators.Separators.count_to_greater.Given as goal

abbrev pub invariant-loop-place : goal.invariant-loop-place
invariant-loop-place l = l.place ≤ length l.self

abbrev pub decreases-loop-place : goal.decreases-loop-place
decreases-loop-place l = length l.self - l.place

use Rattle.std.proofs.Common.{◌≤◌, length}
use Rattle.tree_nodes.specs.Heads.{AreBefore}
use Rattle.tree_nodes.proofs.separators.Separators.count_lesser.Given as goal

abbrev pub invariant-loop-place : goal.invariant-loop-place
invariant-loop-place l = record {
  within : l.count ≤ length l.self;
  before : AreBefore l.count l.key l.self;
}

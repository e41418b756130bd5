use Rattle.std.proofs.Common.{◌≡◌, ◌≤◌, ◌++◌, All, length}
use Rattle.std.specs.List.Sorted.{IsSorted, IsPermutation}
use Rattle.keybytes.specs.Pairs.{pair_cmp}
use Rattle.run_spool.specs.Spools.{all_pairs}
use Rattle.run_merge.specs.Merging.{all_runs, IsLeast}
use Rattle.run_merge.proofs.merged.Merged.rest.Given as goal

abbrev pub invariant-loop-pairs : goal.invariant-loop-pairs
invariant-loop-pairs g l = record {
  order : IsSorted pair_cmp l.pairs.items;
  before : All (λ pair. IsLeast (all_pairs (all_runs l.self.runs)) pair) l.pairs.items;
  all : IsPermutation (all_pairs (all_runs l.fn.self.runs)) (l.pairs.items ++ all_pairs (all_runs l.self.runs));
  open_runs : l.self.open_runs ≡ l.fn.self.open_runs;
  stakes : l.self.stakes ≡ l.fn.self.stakes;
  ways : l.self.ways ≡ l.fn.self.ways;
  grows : l.fn.self.compares ≤ l.self.compares;
}

abbrev pub decreases-loop-pairs : goal.decreases-loop-pairs
decreases-loop-pairs g l = length (all_pairs (all_runs l.self.runs))

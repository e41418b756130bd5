use Rattle.std.proofs.Common.{◌≡◌, ◌++◌, length, map}
use Rattle.btree.specs.Left.{range_left}
use Rattle.csv_index.specs.Listed.{rids_between}
use Rattle.csv_index.proofs.look_up.between.Given as goal

abbrev pub invariant-loop-pair : goal.invariant-loop-pair
invariant-loop-pair l = l.rids.items ++ map (λ pair. pair.rid) (range_left l.pairs) ≡ rids_between l.from l.to l.tree.pairs

abbrev pub decreases-loop-pair : goal.decreases-loop-pair
decreases-loop-pair l = length (range_left l.pairs)

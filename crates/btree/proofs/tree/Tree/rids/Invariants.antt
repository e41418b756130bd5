use Rattle.std.proofs.Common.{◌≡◌, ◌++◌, length}
use Rattle.btree.specs.Left.{pairs_left}
use Rattle.btree.specs.TreeValue.{rids_of}
use Rattle.btree.proofs.Keys.{leading}
use Rattle.btree.proofs.tree.Tree.rids.Given as goal

abbrev pub invariant-loop-pair : goal.invariant-loop-pair
invariant-loop-pair l = l.rids.items ++ leading l.key (pairs_left l.pairs) ≡ rids_of l.key l.self.pairs

abbrev pub decreases-loop-pair : goal.decreases-loop-pair
decreases-loop-pair l = length (pairs_left l.pairs)

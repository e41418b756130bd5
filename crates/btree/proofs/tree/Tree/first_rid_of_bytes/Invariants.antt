use Rattle.std.proofs.Common.{◌≡◌, length}
use Rattle.btree.specs.Left.{pairs_left}
use Rattle.btree.proofs.Keys.{met}
use Rattle.btree.proofs.tree.Tree.first_rid_of_bytes.Given as goal

abbrev pub invariant-loop-pair : goal.invariant-loop-pair
invariant-loop-pair l = met l.bytes (pairs_left l.pairs) ≡ met l.bytes l.self.pairs

abbrev pub decreases-loop-pair : goal.decreases-loop-pair
decreases-loop-pair l = length (pairs_left l.pairs)

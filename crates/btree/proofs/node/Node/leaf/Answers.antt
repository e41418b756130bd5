use Rattle.btree.proofs.MarkFacts.{rising-items_of}
use Rattle.btree.proofs.node.Node.leaf.Goals as goal

pub invariant_of-result : goal.invariant_of-result
invariant_of-result c = rising-items_of _ c.pairs-rise.ensures.rise.rising

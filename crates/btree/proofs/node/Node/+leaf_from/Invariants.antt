use Rattle.btree.proofs.node.Node.+leaf_from.Given as goal

abbrev pub decreases-leaf_from : goal.decreases-leaf_from
decreases-leaf_from l = l.self.now.height

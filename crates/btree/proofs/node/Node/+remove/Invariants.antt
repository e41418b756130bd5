use Rattle.btree.proofs.node.Node.+remove.Given as goal

abbrev pub decreases-remove : goal.decreases-remove
decreases-remove l = l.self.now.height

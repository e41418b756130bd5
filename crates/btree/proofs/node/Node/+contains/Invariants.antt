use Rattle.btree.proofs.node.Node.+contains.Given as goal

abbrev pub decreases-contains : goal.decreases-contains
decreases-contains l = l.self.now.height

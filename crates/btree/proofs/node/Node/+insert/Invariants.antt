use Rattle.btree.proofs.node.Node.+insert.Given as goal

abbrev pub decreases-insert : goal.decreases-insert
decreases-insert l = l.self.now.height

use Rattle.btree.proofs.node.Node.+append.Given as goal

abbrev pub decreases-append : goal.decreases-append
decreases-append l = l.self.now.height

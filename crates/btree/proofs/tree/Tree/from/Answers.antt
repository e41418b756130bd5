use Rattle.std.proofs.Common.{subst}
use Rattle.tree_nodes.specs.Order.{PairsRise}
use Rattle.btree.specs.TreeValue.{TreeValue}
use Rattle.btree.proofs.TreeFacts.{rising_pairs}
use Rattle.btree.proofs.tree.Tree.from.Goals as goal

pub returns-clause-rise : goal.returns-clause-rise
returns-clause-rise c =
    let R : TreeValue → Type 0 = λ v. PairsRise v.pairs in
    subst R c.self.view_is (record { rising = rising_pairs _ c.self.invariant.rising })

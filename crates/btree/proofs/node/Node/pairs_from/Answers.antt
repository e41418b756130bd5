use Rattle.std.proofs.Common.{subst}
use Rattle.tree_nodes.specs.Lists.{IsRising}
use Rattle.btree.specs.Marks.{mark_before}
use Rattle.btree.specs.Seen.{Seen}
use Rattle.btree.proofs.FanFacts.{rising_kind}
use Rattle.btree.proofs.Leaving.{leaving, next_above}
use Rattle.btree.proofs.node.Node.pairs_from.Goals as goal

pub returns-clause-is : goal.returns-clause-is
returns-clause-is c =
    let R : Seen → Type 0 = λ s. IsRising mark_before s.marks in
    (leaving _ _ _ _ (subst R c.self.view_is (rising_kind c.self.inside.kind c.self.invariant)) c.leaf_from.ensures).is

pub returns-clause-behind : goal.returns-clause-behind
returns-clause-behind c = next_above _ _ _ _ c.leaf_from.ensures

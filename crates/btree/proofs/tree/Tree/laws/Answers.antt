use Rattle.std.proofs.Common.{subst}
use Rattle.keybytes.specs.Pairs.{AreOrdered}
use Rattle.btree.specs.TreeValue.{TreeValue}
use Rattle.btree.proofs.TreeFacts.{rising_pairs}
use Rattle.btree.proofs.Sets.{ordered_of}
use Rattle.btree.proofs.tree.Tree.laws.Goals as goal

pub returns : goal.returns
returns c =
    let O : TreeValue → Type 0 = λ v. AreOrdered v.pairs in
    subst O c.self.view_is (ordered_of _ (rising_pairs _ c.self.invariant.rising))

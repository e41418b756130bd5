use Rattle.std.proofs.Common.{List, sym, subst}
use Rattle.tree_nodes.specs.declared.fan.Fan.{Fan}
use Rattle.btree.specs.Seen.{Seen}
use Rattle.btree.specs.Splits.{AllBlank}
use Rattle.btree.proofs.TreeFacts.{blank_more}
use Rattle.btree.proofs.spare.fill_fans.Goals as goal

pub loop-alloc-preserved : goal.loop-alloc-preserved
loop-alloc-preserved c =
    let P : List (Fan Seen) → Type 0 = λ v. AllBlank v in
    subst P (sym c.in_ok-push.ensures.items) (blank_more _ _ c.loop-alloc.invariant c.in_ok-fan.ensures.blank)

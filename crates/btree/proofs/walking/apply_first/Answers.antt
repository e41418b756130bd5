use Rattle.std.proofs.Common.{◌≡◌, true, false, length, sym, ap, ◌∙◌, subst}
use Rattle.tree_nodes.specs.Lists.{has, put}
use Rattle.tree_nodes.specs.Order.{is_before}
use Rattle.btree.specs.declared.change.Change.{Change}
use Rattle.btree.proofs.LeafSteps.{leaf_in, leaf_same, leaf_full, first_is}
use Rattle.btree.proofs.walking.apply_first.Goals as goal

pub returns-in-Ok-clause-walked : goal.returns-in-Ok-clause-walked
returns-in-Ok-clause-walked c =
    let change = c.take_first-there.result in
    let same = c.in-Some.ensures.lookup ∙ first_is _ _ change c.in-Some.first.now c.take_first-there.ensures in
    let P : Change → Type 0 = λ x. (x.puts_in ≡ true) × (put is_before x.pair c.args.leaf.now ≡ c.args.leaf.now) in
    let h = subst P same (c.if-not-first.false, c.in-Ok.ensures.there.put) in
    leaf_same change _ _ _ c.take_first-there.ensures h.0 h.1

pub returns-in-Err-clause-stops : goal.returns-in-Err-clause-stops
returns-in-Err-clause-stops c = λ less.
    leaf_full _ c.in-Some.first.now _ c.requires c.in-Some.ensures.lookup c.if-not-first.false c.in-Err.ensures.gap.absent
    (sym (ap length c.pairs.ensures.pairs) ∙ c.if-pairs-eq-LEAF_MAX.true)

pub returns-in-Err-2-clause-walked : goal.returns-in-Err-2-clause-walked
returns-in-Err-2-clause-walked c =
    let change = c.take_first-change.result in
    let same = c.in-Some.ensures.lookup ∙ first_is _ _ change c.in-Some.first.now c.take_first-change.ensures in
    let P : Change → Type 0 = λ x. (x.puts_in ≡ true) × (has is_before x.pair c.args.leaf.now ≡ false) in
    let h = subst P same (c.if-not-first.false, c.in-Err-2.ensures.gap.absent) in
    leaf_in change _ _ _ _ c.take_first-change.ensures h.0 c.pairs.ensures.rise h.1 c.insert_at.ensures

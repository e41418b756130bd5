use Rattle.std.proofs.Common.{sym, ap, ◌∙◌}
use Rattle.std.specs.Ordering.{is_eq}
use Rattle.btree.proofs.Keys.{key_other, key_same, least_none, least_other, least_there}
use Rattle.btree.proofs.tree.Tree.first_rid.Goals as goal

pub returns-in_err-pair : goal.returns-in_err-pair
returns-in_err-pair c =
    c.from_residual.ensures
    ∙ least_none c.args.key.now c.args.self.now.pairs _ c.from-pairs.ensures.rise.rising c.from-pairs.ensures.pairs c.in_err-pair.ensures.steps.0

pub returns-then-ne : goal.returns-then-ne
returns-then-ne c =
    let other = ap is_eq (sym c.cmp.ensures) ∙ key_other c.cmp.result (sym c.ne.ensures ∙ c.if-ne.true) in
    least_other c.args.key.now c.in_ok-pair.pair.now c.args.self.now.pairs _ _ c.from-pairs.ensures.rise.rising c.from-pairs.ensures.pairs
    c.in_ok-pair.ensures.steps other

pub returns : goal.returns
returns c =
    let same = ap is_eq (sym c.cmp.ensures) ∙ key_same c.cmp.result (sym c.ne.ensures ∙ c.if-ne.false) in
    least_there c.args.key.now c.in_ok-pair.pair.now c.args.self.now.pairs _ _ c.from-pairs.ensures.rise.rising c.from-pairs.ensures.pairs
    c.in_ok-pair.ensures.steps same

use Rattle.std.proofs.Common.{◌∙◌, sym, ap, subst}
use Rattle.std.specs.List.{All}
use Rattle.std.proofs.lemmas.List.Elements.{All-head, All-tail}
use Rattle.keybytes.specs.Keys.{IsKeyOf}
use Rattle.keybytes.specs.declared.pair.Pair.{Pair}
use Rattle.btree.specs.Left.{pairs_left}
use Rattle.picture.proofs.gains.add_pairs.Goals as goal

pub loop-pair-init : goal.loop-pair-init
loop-pair-init c =
    let all = ap pairs_left c.into_iter-pair-iterator.ensures.into_iter_gives ∙ c.iter-pair-items.ensures in
    (tt, tt, subst (All (λ (pair : Pair). IsKeyOf c.args.spec.now pair.key)) (sym all) c.requires)

pub pair_line-requires : goal.pair_line-requires
pair_line-requires c =
    let keyed = subst (All (λ (pair : Pair). IsKeyOf c.args.spec.now pair.key)) c.in-Some.ensures.steps c.loop-pair.invariant.2 in
    All-head (λ (pair : Pair). IsKeyOf c.args.spec.now pair.key) c.in-Some.pair.now (pairs_left c.next.new.self) keyed

pub loop-pair-preserved : goal.loop-pair-preserved
loop-pair-preserved c =
    let keyed = subst (All (λ (pair : Pair). IsKeyOf c.args.spec.now pair.key)) c.in-Some.ensures.steps c.loop-pair.invariant.2 in
    (tt, tt, All-tail (λ (pair : Pair). IsKeyOf c.args.spec.now pair.key) c.in-Some.pair.now (pairs_left c.next.new.self) keyed)

use Rattle.std.proofs.Common.{◌∙◌, ◌∷◌, [], ◌++◌, append_assoc, sym, ap, subst, List}
use Rattle.std.specs.List.{All, AllZip}
use Rattle.std.proofs.lemmas.List.Elements.{All-head, All-tail}
use Rattle.keybytes.specs.Keys.{IsKeyOf}
use Rattle.keybytes.specs.declared.pair.Pair.{Pair}
use Rattle.btree.specs.Left.{pairs_left}
use Rattle.script.proofs.Zips.{zip_push}
use Rattle.replay.specs.Listings.{ListsPair}
use Rattle.replay.specs.declared.pair_line.PairLine.{PairLine}
use Rattle.replay.proofs.listing.tree_lines.Goals as goal

pub loop-pair-init : goal.loop-pair-init
loop-pair-init c =
    let all = ap pairs_left c.into_iter-pair-iterator.ensures.into_iter_gives ∙ c.iter-pair-items.ensures in (
      tt,
      tt,
      subst (All (λ (pair : Pair). IsKeyOf c.args.spec.now pair.key)) (sym all) c.requires,
      ([], sym all, subst (AllZip (ListsPair c.args.spec.now) []) (sym c.in_ok-lines.ensures.items) tt),
    )

pub pair_line-requires : goal.pair_line-requires
pair_line-requires c =
    let keyed = subst (All (λ (pair : Pair). IsKeyOf c.args.spec.now pair.key)) c.in-Some.ensures.steps c.loop-pair.invariant.2 in
    All-head (λ (pair : Pair). IsKeyOf c.args.spec.now pair.key) c.in-Some.pair.now (pairs_left c.next.new.self) keyed

pub loop-pair-preserved : goal.loop-pair-preserved
loop-pair-preserved c =
    let pair : Pair = c.in-Some.pair.now in
    let rest : List Pair = pairs_left c.next.new.self in
    let keyed = subst (All (λ (pair : Pair). IsKeyOf c.args.spec.now pair.key)) c.in-Some.ensures.steps c.loop-pair.invariant.2 in
    let before = c.loop-pair.invariant.3 in (
      tt,
      tt,
      All-tail (λ (pair : Pair). IsKeyOf c.args.spec.now pair.key) pair rest keyed,
      (
        before.0 ++ pair ∷ [],
        before.1 ∙ ap (λ xs. before.0 ++ xs) c.in-Some.ensures.steps ∙ sym (append_assoc before.0 (pair ∷ []) rest),
        subst (AllZip (ListsPair c.args.spec.now) (before.0 ++ pair ∷ [])) (sym {A = List PairLine} c.in_ok-push.ensures.items)
            (zip_push (ListsPair c.args.spec.now) before.0 c.loop-pair.lines.items pair c.in_ok-pair_line.field-0 before.2 c.in_ok-pair_line.ensures.lists),
      ),
    )

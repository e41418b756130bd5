use Rattle.std.proofs.Common.{◌<◌, ◌∙◌, All, List, length, get_or, ap, subst, arith}
use Rattle.std.proofs.lemmas.List.{take_all}
use Rattle.std.proofs.lemmas.List.Elements.{All-more}
use Rattle.keybytes.specs.declared.pair.Pair.{Pair}
use Rattle.run_maker.specs.Making.{MakerValue}
use Rattle.run_maker.proofs.maker.Maker.laws.Goals as goal

pub loop-begun-preserved : goal.loop-begun-preserved
loop-begun-preserved c =
    let begun = c.args.self.now.begun in
    let same = c.deref-begun-items.ensures.value ∙ ap (λ (v : MakerValue). v.begun) c.self.view_is in
    let inside : c.loop-begun.begun-index < length begun = omega (arith, c.loop-begun-test.true, ap length same) in
    let here : length (get_or begun c.loop-begun.begun-index c.begun-item.result) < 4096 =
    subst (λ (ps : List Pair). length ps < 4096)
    (c.begun-item.is ∙ ap (λ (xs : List (List Pair)). get_or xs c.loop-begun.begun-index c.begun-item.result) same) c.laws.ensures in
    All-more (λ (ps : List Pair). length ps < 4096) begun c.loop-begun.begun-index c.begun-item.result inside c.loop-begun.invariant here

pub returns-clause-short : goal.returns-clause-short
returns-clause-short c =
    let begun = c.args.self.now.begun in
    let same = c.deref-begun-items.ensures.value ∙ ap (λ (v : MakerValue). v.begun) c.self.view_is in
    let long = take_all c.loop-begun.begun-index begun (omega (arith, c.loop-begun-test.false, ap length same)) in
    subst (All (λ (ps : List Pair). length ps < 4096)) long c.loop-begun.invariant

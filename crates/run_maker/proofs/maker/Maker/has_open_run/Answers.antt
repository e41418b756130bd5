use Rattle.std.proofs.Common.{rules, ◌≡◌, ◌<◌, All, [], List, subst, sym, ◌∙◌, ap, length, get_or, arith}
use Rattle.std.proofs.lemmas.List.{take_all}
use Rattle.std.proofs.lemmas.List.Elements.{All-more}
use Rattle.keybytes.specs.declared.pair.Pair.{Pair}
use Rattle.run_maker.specs.Making.{MakerValue}
use Rattle.run_maker.proofs.maker.Maker.has_open_run.Goals as goal

pub loop-begun-preserved : goal.loop-begun-preserved
loop-begun-preserved c =
    let begun = c.args.self.now.begun in
    let same = c.deref-begun-items.ensures.value ∙ ap (λ (v : MakerValue). v.begun) c.self.view_is in
    let inside : c.loop-begun.begun-index < length begun = omega (arith, c.loop-begun-test.true, ap length same) in
    let none : c.begun-item.result ≡ [] = c.if-not-is_empty.ensures.0 (search rules) in
    let x : get_or begun c.loop-begun.begun-index c.begun-item.result ≡ [] =
    sym (c.begun-item.is ∙ ap (λ (xs : List (List Pair)). get_or xs c.loop-begun.begun-index c.begun-item.result) same) ∙ none in
    All-more (λ (ps : List Pair). ps ≡ []) begun c.loop-begun.begun-index c.begun-item.result inside c.loop-begun.invariant x

pub returns-clause-none : goal.returns-clause-none
returns-clause-none c = λ _.
    let begun = c.args.self.now.begun in
    let same = c.deref-begun-items.ensures.value ∙ ap (λ (v : MakerValue). v.begun) c.self.view_is in
    subst (All (λ (ps : List Pair). ps ≡ [])) (take_all c.loop-begun.begun-index begun (omega (arith, c.loop-begun-test.false, ap length same)))
    c.loop-begun.invariant

use Rattle.std.proofs.Common.{◌≡◌, ◌∙◌, Bool, List, true, false, refl, ap, sym, subst}
use Rattle.std.specs.List.{list_all}
use Rattle.std.proofs.lemmas.Bool.{and_from, false≢true}
use Rattle.std.proofs.lemmas.List.{take_all}
use Rattle.std.proofs.lemmas.List.Folds.{list_all_at, list_all_more}
use Rattle.keybytes.specs.Keys.{KeySpecValue}
use Rattle.keybytes.specs.declared.kind.Kind.{Kind}
use Rattle.keybytes.specs.Schemas.{same_kinds}
use Rattle.live_lemmas.proofs.Starts.{kinds_differ, kinds_agree, each_agrees}
use Rattle.live_table.proofs.live.builds.are_of.Goals as goal

-- whether a specification is of these columns
abbrev is_of_them : List Kind → KeySpecValue → Bool
is_of_them kinds spec = same_kinds spec.kinds kinds

pub returns-then-not-is_of-clause-same : goal.returns-then-not-is_of-clause-same
returns-then-not-is_of-clause-same c =
    let spec : KeySpecValue = c.spec-item.result in
    let kinds : List Kind = c.args.schema.now in
    let specs : List KeySpecValue = c.args.specs.now in
    let other : same_kinds spec.kinds kinds ≡ false = kinds_differ spec.kinds kinds (λ e. false≢true (c.if-not-is_of.ensures.1 e)) in
    sym (list_all_at (is_of_them kinds) specs c.loop-spec.spec-index spec c.loop-spec-test.true (ap (is_of_them kinds) (sym c.spec-item.is) ∙ other))

pub loop-spec-preserved : goal.loop-spec-preserved
loop-spec-preserved c =
    let spec : KeySpecValue = c.spec-item.result in
    let kinds : List Kind = c.args.schema.now in
    let specs : List KeySpecValue = c.args.specs.now in
    let i = c.loop-spec.spec-index in
    let here : same_kinds spec.kinds kinds ≡ true = kinds_agree spec.kinds kinds (c.if-not-is_of.ensures.0 refl) in
    list_all_more (is_of_them kinds) specs i spec c.loop-spec-test.true
    ∙ and_from _ _ c.loop-spec.invariant (ap (is_of_them kinds) (sym c.spec-item.is) ∙ here)

pub returns-clause-columns : goal.returns-clause-columns
returns-clause-columns c = λ _.
    let kinds : List Kind = c.args.schema.now in
    let specs : List KeySpecValue = c.args.specs.now in
    let i = c.loop-spec.spec-index in
    each_agrees specs kinds (subst (λ (ss : List KeySpecValue). list_all (is_of_them kinds) ss ≡ true) (take_all i specs c.loop-spec-test.false) c.loop-spec.invariant)

use Rattle.std.proofs.Common.{◌≡◌, true, refl, ap, sym, subst}
use Rattle.std.proofs.lemmas.List.Elements.{All-cons}
use Rattle.heap_log.specs.declared.record.LogRec.TheVariants.{Switch}
use Rattle.key_guards.specs.UniqueKeys.{UniqueKeysAreGuarded}
use Rattle.ready_indexes.specs.Following.{AllFollow, Follows, GuardedIndex, indexes_of}
use Rattle.ready_indexes.specs.Indexes.{ReadyValue}
use Rattle.ready_indexes.specs.KeyCauses.{KeysAreGuarded}
use Rattle.ready_indexes.proofs.Each.{first_of, rest_of, follows_on}
use Rattle.ready_indexes.proofs.ready_indexes.+laws_of.Goals as goal

pub returns-clause-keys : goal.returns-clause-keys
returns-clause-keys t c = λ heap holds all.
    let is = c.in-Some.ensures.cases.0 in
    let it = c.in-Some.index.now in
    let rest = c.in-Some.rest.now in
    let first = subst (Follows heap.schema heap.log) (sym c.index.view_is) (first_of (Follows heap.schema heap.log) it rest c.args.indexes.now is all) in
    let others = c.laws_of.ensures.keys heap holds (rest_of (Follows heap.schema heap.log) it rest c.args.indexes.now is all) in
    subst (λ xs. KeysAreGuarded heap.log (indexes_of xs)) (sym is)
    (All-cons (λ (i : ReadyValue). i.spec.unique ≡ true → UniqueKeysAreGuarded i.spec heap.log) it.index (indexes_of rest)
    (subst (λ (i : ReadyValue). i.spec.unique ≡ true → UniqueKeysAreGuarded i.spec heap.log) (ap (λ (g : GuardedIndex). g.index) c.index.view_is)
    (λ unique. c.laws.ensures.guarded c.index.inside.spec heap holds (first.guarded unique))) others)

pub returns-clause-switched : goal.returns-clause-switched
returns-clause-switched t c = λ kinds old new verdicts goes all.
    let is = c.in-Some.ensures.cases.0 in
    let it = c.in-Some.index.now in
    let rest = c.in-Some.rest.now in
    let first = subst (Follows kinds old) (sym c.index.view_is) (first_of (Follows kinds old) it rest c.args.indexes.now is all) in
    let now = follows_on kinds old (Switch verdicts) new _ _ goes refl
    (λ has unique. c.laws.ensures.switched c.index.inside.spec old verdicts goes.undos (has unique)) first in
    let others = c.laws_of.ensures.switched kinds old new verdicts goes (rest_of (Follows kinds old) it rest c.args.indexes.now is all) in
    subst (AllFollow kinds new) (sym is) (All-cons (Follows kinds new) it rest (subst (Follows kinds new) c.index.view_is now) others)

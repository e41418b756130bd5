use Rattle.std.proofs.Common.{List, ◌∙◌, ap, sym, subst}
use Rattle.ready_indexes.specs.Following.{AllFollow, GuardedIndex, IndexesValue, indexes_of}
use Rattle.ready_indexes.specs.KeyCauses.{KeysAreGuarded}
use Rattle.ready_indexes.proofs.ready_indexes.ReadyIndexes.laws.Goals as goal

pub returns-clause-keys : goal.returns-clause-keys
returns-clause-keys c = λ heap holds all.
    let same = c.as_slice.ensures.value ∙ ap (λ (them : IndexesValue). them.indexes) c.self.view_is in
    subst (λ (them : List GuardedIndex). KeysAreGuarded heap.log (indexes_of them)) same
    (c.laws_of.ensures.keys heap holds (subst (AllFollow heap.schema heap.log) (sym same) all))

pub returns-clause-switched : goal.returns-clause-switched
returns-clause-switched c = λ kinds old new verdicts goes all.
    let same = c.as_slice.ensures.value ∙ ap (λ (them : IndexesValue). them.indexes) c.self.view_is in
    subst (AllFollow kinds new) same (c.laws_of.ensures.switched kinds old new verdicts goes (subst (AllFollow kinds old) (sym same) all))

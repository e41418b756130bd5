use Rattle.std.proofs.Common.{◌∙◌, ap, sym, subst, arith}
use Rattle.ready_indexes.specs.Following.{AllFollow, IndexesValue}
use Rattle.ready_indexes.proofs.Each.{whole_holds}
use Rattle.ready_indexes.proofs.ready_indexes.ReadyIndexes.prepare.Goals as goal

pub returns-clause-follow : goal.returns-clause-follow
returns-clause-follow c = λ kinds log all.
    let indexes = c.self.inside.indexes in
    let before = subst (AllFollow kinds log) (sym (c.as_mut_slice.ensures.value ∙ ap (λ (them : IndexesValue). them.indexes) c.self.view_is)) all in
    whole_holds (AllFollow kinds log) indexes.len c.prepare_each.new.indexes indexes.items (omega (arith, c.prepare_each.auto.indexes, c.as_mut_slice.ensures.len))
    (c.prepare_each.ensures.follow kinds log before)

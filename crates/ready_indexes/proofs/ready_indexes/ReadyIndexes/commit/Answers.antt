use Rattle.std.proofs.Common.{sym, subst, arith}
use Rattle.ready_indexes.specs.Following.{AllFollow, IndexesValue}
use Rattle.ready_indexes.proofs.Each.{whole_holds}
use Rattle.ready_indexes.proofs.ready_indexes.ReadyIndexes.commit.Goals as goal

pub returns-clause-follow : goal.returns-clause-follow
returns-clause-follow c = λ kinds old new goes all.
    let indexes = c.self.inside.indexes in
    let before = subst (AllFollow kinds old) (sym c.as_mut_slice.ensures.value)
    (subst (λ (them : IndexesValue). AllFollow kinds old them.indexes) (sym c.self.view_is) all) in
    whole_holds (AllFollow kinds new) indexes.len c.commit_each.new.indexes indexes.items (omega (arith, c.commit_each.auto.indexes, c.as_mut_slice.ensures.len))
    (c.commit_each.ensures.follow kinds old new goes before)

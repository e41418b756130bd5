use Rattle.std.proofs.Common.{sym, subst}
use Rattle.ready_indexes.specs.Following.{AllFollow, IndexesValue}
use Rattle.ready_indexes.proofs.ready_indexes.ReadyIndexes.check.Goals as goal

pub check_from-requires-clause-follow : goal.check_from-requires-clause-follow
check_from-requires-clause-follow c =
    let heap = c.args.heap.now.state in
    subst (AllFollow heap.schema heap.log) (sym c.as_slice.ensures.value)
    (subst (λ (them : IndexesValue). AllFollow heap.schema heap.log them.indexes) (sym c.self.view_is) c.requires.follow)

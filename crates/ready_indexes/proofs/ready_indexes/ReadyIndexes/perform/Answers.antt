use Rattle.std.proofs.Common.{◌∙◌, ap, sym, subst}
use Rattle.std.specs.List.{All}
use Rattle.ready_indexes.specs.Following.{AllFollow, AreLetIn, IndexesValue, IsPrepared, indexes_of}
use Rattle.ready_indexes.proofs.ready_indexes.ReadyIndexes.perform.Goals as goal

pub follow_each-requires-clause-prepared : goal.follow_each-requires-clause-prepared
follow_each-requires-clause-prepared c =
    subst (All (IsPrepared c.args.ready)) (sym (c.as_mut_slice.ensures.value ∙ ap (λ (them : IndexesValue). them.indexes) c.self.view_is)) c.requires.prepared

pub follow_each-requires-clause-follow : goal.follow_each-requires-clause-follow
follow_each-requires-clause-follow c =
    let heap = c.args.heap.now.state in
    subst (AllFollow heap.schema heap.log) (sym (c.as_mut_slice.ensures.value ∙ ap (λ (them : IndexesValue). them.indexes) c.self.view_is)) c.requires.follow

pub follow_each-requires-clause-let_in : goal.follow_each-requires-clause-let_in
follow_each-requires-clause-let_in c = λ none.
    subst (λ indexes. AreLetIn c.args.heap.now.state.log (indexes_of indexes) c.args.ready)
    (sym (c.as_mut_slice.ensures.value ∙ ap (λ (them : IndexesValue). them.indexes) c.self.view_is)) (c.requires.let_in none)

use Rattle.std.proofs.Common.{sym, subst}
use Rattle.std.proofs.lemmas.List.Elements.{All-push}
use Rattle.ready_indexes.specs.Following.{AllFollow, Follows, IndexesValue}
use Rattle.ready_indexes.proofs.Each.{follows_new}
use Rattle.ready_indexes.proofs.ready_indexes.ReadyIndexes.push.Goals as goal

pub returns-clause-follow : goal.returns-clause-follow
returns-clause-follow c = λ heap may all.
    let before = subst (λ (them : IndexesValue). AllFollow heap.schema heap.log them.indexes) (sym c.self.view_is) all in
    let first = follows_new heap c.args.spec c.args.tree.pairs c.new.result c.new.ensures.index may (c.new.ensures.guarded heap may.holds may.guarded) in
    subst (AllFollow heap.schema heap.log) (sym c.push_reserved.ensures.items)
    (All-push (Follows heap.schema heap.log) c.self.inside.indexes.items c.new.result before first)

use Rattle.std.proofs.Common.{refl, sym, subst}
use Rattle.heap_log.specs.declared.record.LogRec.TheVariants.{Commit}
use Rattle.ready_indexes.specs.Following.{Follows}
use Rattle.ready_indexes.proofs.Each.{follows_on}
use Rattle.ready_indexes.proofs.ready_index.ReadyIndex.commit.Goals as goal

pub returns-clause-follows : goal.returns-clause-follows
returns-clause-follows c = λ kinds old new goes follows.
    let before = subst (Follows kinds old) (sym c.self.view_is) follows in
    follows_on kinds old (Commit c.args.txn) new _ _ goes refl (λ has unique. c.committed.ensures c.self.inside.spec old goes.undos (has unique)) before

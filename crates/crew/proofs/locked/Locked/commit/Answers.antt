use Rattle.heap_log.specs.declared.record.LogRec.TheVariants.{Commit}
use Rattle.std.proofs.Common.{length, rules, ap, refl, sym}
use Rattle.build_events.specs.CoreState.{LiveState}
use Rattle.heap_table.specs.HeapState.{HeapState}
use Rattle.crew.proofs.MadeReady.{one_written}
use Rattle.crew.proofs.Credits.{kept_committed}
use Rattle.crew.proofs.locked.Locked.commit.Goals as goal

pub invariant_of-self-2 : goal.invariant_of-self-2
invariant_of-self-2 g c =
    let does = c.in_ok-number.ensures.committed.1 in
    let made = one_written g.T.Opened.opening c.self.inside.live.state.heap.log c.commit.new.self.state.heap.log (Commit c.args.txn) (length c.self.inside.live.state.ready) (length c.commit.new.self.state.ready) refl
    (ap (λ (h : HeapState). h.log) does.0.1) (ap (λ (s : LiveState). length s.ready) does.1) c.self.invariant.2 in (
      search rules,
      (made.since, sym made.goes_on),
      made,
      kept_committed c.self.inside.live.state c.commit.new.self.state c.args.txn c.in_ok-number.number c.self.inside.credit c.in_ok-number.ensures.committed.1
          c.self.invariant.3,
    )

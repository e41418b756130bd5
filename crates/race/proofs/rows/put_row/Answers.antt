use Rattle.std.proofs.Common.{◌++◌, ◌∷◌, [], ℕ, List, false, sym, ap, subst, ◌∙◌}
use Rattle.heap_log.specs.declared.record.LogRec.{LogRec}
use Rattle.heap_table.specs.HeapState.{HeapState}
use Rattle.race.specs.Rows.{HasPassedOver}
use Rattle.race.proofs.PassedOver.{passed_both}
use Rattle.race.proofs.TakenBack.{begun_committed}
use Rattle.race.proofs.rows.put_row.Goals as goal

pub returns-in-Ok-clause-ended : goal.returns-in-Ok-clause-ended
returns-in-Ok-clause-ended c =
    let old = c.args.heap.now.state in
    begun_committed old c.insert.new.heap.state c.begin.new.self.state.active c.in_ok-txn.txn
    (ap (λ (state : HeapState). state.active) c.in_ok-txn.ensures.1.1
    ∙ ap (λ (n : ℕ). old.active ++ record { txn = n; ending = false } ∷ []) (sym c.in_ok-txn.ensures.1.0))
    c.in-Ok.ensures.ended

pub returns-then-take_back-clause-refused : goal.returns-then-take_back-clause-refused
returns-then-take_back-clause-refused c =
    passed_both c.args.heap.now.state.log c.insert.new.heap.state.log c.take_back.new.heap.state.log
    (subst (λ (log : List LogRec). HasPassedOver log c.insert.new.heap.state.log) (ap (λ (state : HeapState). state.log) c.in_ok-txn.ensures.1.1)
    c.in-Err.ensures.refused) c.take_back.ensures.passed

pub returns-else-take_back-clause-refused : goal.returns-else-take_back-clause-refused
returns-else-take_back-clause-refused c =
    passed_both c.args.heap.now.state.log c.insert.new.heap.state.log c.take_back.new.heap.state.log
    (subst (λ (log : List LogRec). HasPassedOver log c.insert.new.heap.state.log) (ap (λ (state : HeapState). state.log) c.in_ok-txn.ensures.1.1)
    c.in-Err.ensures.refused) c.take_back.ensures.passed

use Rattle.std.proofs.Common.{◌≡◌, List, Option, sym, ap, ◌∙◌, subst}
use Rattle.std.specs.Prelude.{IfErr}
use Rattle.std.proofs.lemmas.Result.{err_from_is_err_and}
use Rattle.keybytes.specs.declared.fault.Fault.{Fault}
use Rattle.heap_log.specs.declared.record.LogRec.{LogRec}
use Rattle.heap_table.specs.HeapState.{HeapState, txn_refusal}
use Rattle.heap_table.specs.Sound.{HoldsFollowLog}
use Rattle.crew.specs.Causes.{CauseOn}
use Rattle.crew.specs.Credits.{LockedValue}
use Rattle.crew.proofs.Txns.{cause_on}
use Rattle.crew.proofs.session.Session.commit.Goals as goal

pub returns-in_err-rec-clause-cause : goal.returns-in_err-rec-clause-cause
returns-in_err-rec-clause-cause g c =
    let known : List LogRec = c.hold-guard.new.self in
    let heap = c.deref_mut.result.now.state.heap in
    let why : HeapState → Option Fault = λ heap. txn_refusal heap c.args.txn in
    let knows : heap.log ≡ known = ap (λ (l : LockedValue). l.state.heap.log) c.deref_mut.ensures.value ∙ c.hold-guard.ensures.known in
    let holds = subst (λ (l : LockedValue). HoldsFollowLog l.state.heap) (sym c.deref_mut.ensures.value) c.hold-guard.ensures.holds in
    let cause = cause_on why heap known c.in_err-rec.field-0.0 knows holds c.in_err-rec.ensures.refused in
    let told = err_from_is_err_and c.from_residual.result c.from_residual.ensures.1 in
    subst (λ r. IfErr r (CauseOn why known)) (sym told.1) (subst (CauseOn why known) (sym told.2) cause)

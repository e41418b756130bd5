use Rattle.std.proofs.Common.{◌≡◌, List, rules, sym, ap, ◌∙◌, subst}
use Rattle.std.specs.Prelude.{IfErr}
use Rattle.std.proofs.lemmas.Result.{err_from_is_err_and}
use Rattle.heap_log.specs.declared.record.LogRec.{LogRec}
use Rattle.heap_table.specs.HeapState.{begin_refusal}
use Rattle.heap_table.specs.Sound.{HoldsFollowLog}
use Rattle.crew.specs.Causes.{CauseOn}
use Rattle.crew.specs.Credits.{LockedValue}
use Rattle.crew.proofs.Txns.{begun_fresh, begun_unwritten, cause_on, refused_for}
use Rattle.crew.proofs.session.Session.begin.Goals as goal

pub returns-clause-fresh : goal.returns-clause-fresh
returns-clause-fresh g c =
    let known : List LogRec = c.hold-guard.new.self in
    let old = c.deref_mut.result.now.state in
    let knows : old.heap.log ≡ known = ap (λ (l : LockedValue). l.state.heap.log) c.deref_mut.ensures.value ∙ c.hold-guard.ensures.known in
    let holds = subst (λ (l : LockedValue). HoldsFollowLog l.state.heap) (sym c.deref_mut.ensures.value) c.hold-guard.ensures.holds in
    let now : c.deref.result.now ≡ c.begin.new.self = search rules in
    record {
      unwritten = begun_unwritten old c.begin.new.self.state known c.in_ok-txn.txn c.in_ok-txn.ensures.begun.1 holds knows;
      uncommitted = begun_fresh old c.begin.new.self.state c.deref.result.now.state.heap known c.in_ok-txn.txn c.in_ok-txn.ensures.begun.1
          (ap (λ (l : LockedValue). l.state.heap) now) c.laws.ensures.holds knows;
    }

pub returns-in_err-txn-clause-cause : goal.returns-in_err-txn-clause-cause
returns-in_err-txn-clause-cause g c =
    let known : List LogRec = c.hold-guard.new.self in
    let old = c.deref_mut.result.now.state in
    let knows : old.heap.log ≡ known = ap (λ (l : LockedValue). l.state.heap.log) c.deref_mut.ensures.value ∙ c.hold-guard.ensures.known in
    let holds = subst (λ (l : LockedValue). HoldsFollowLog l.state.heap) (sym c.deref_mut.ensures.value) c.hold-guard.ensures.holds in
    let fault = c.in_err-txn.field-0.0 in
    let cause = cause_on begin_refusal old.heap known fault knows holds (refused_for (begin_refusal old.heap) old c.begin.new.self.state fault c.in_err-txn.ensures.begun) in
    let told = err_from_is_err_and c.from_residual.result c.from_residual.ensures.1 in
    subst (λ r. IfErr r (CauseOn begin_refusal known)) (sym told.1) (subst (CauseOn begin_refusal known) (sym told.2) cause)

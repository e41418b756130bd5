-- What a session knows of a transaction that it begins, and of a refusal.
use Rattle.std.proofs.Common.{◌≡◌, ℕ, ◌+◌, Bool, true, false, List, Option, refl, sym, ap, ◌∙◌, inl, inr, arith}
use Rattle.std.specs.Prelude.{◌==◌, ◌||◌}
use Rattle.std.proofs.lemmas.Bool.{cases_Bool, eq-eqb}
use Rattle.keybytes.specs.Answered.{Refused}
use Rattle.keybytes.specs.Faults.{RefusedFor}
use Rattle.keybytes.specs.declared.fault.Fault.{Fault}
use Rattle.keybytes.specs.declared.rid.Rid.{Rid}
use Rattle.heap_log.specs.declared.record.LogRec.{LogRec}
use Rattle.heap_table.specs.Calls.{Begins}
use Rattle.heap_table.specs.HeapState.{HeapState, after_begin, is_open}
use Rattle.heap_table.specs.Holders.{committed, wrote}
use Rattle.heap_table.specs.Sound.{HoldsFollowLog}
use Rattle.heap_table.proofs.OpenOnes.{open_begun}
use Rattle.build_events.specs.CoreState.{LiveState}
use Rattle.build_events.specs.Steps.{OnHeap}
use Rattle.crew.specs.Causes.{CauseOn}

or_true : (b : Bool) → (b || true) ≡ true
or_true true = refl
or_true false = refl

-- it is open once it has begun, and so it hasn't committed
pub begun_fresh :
    (old new : LiveState) (now : HeapState) (log : List LogRec) (txn : ℕ) → OnHeap Begins old txn new → now ≡ new.heap → HoldsFollowLog now
    → old.heap.log ≡ log → committed log txn ≡ false
begun_fresh old new now log txn does is holds known =
    let left : now ≡ after_begin old.heap = is ∙ does.0.1 in
    let same : (old.heap.begun + 1 == txn) ≡ true = eq-eqb (old.heap.begun + 1) txn (sym does.0.0) in
    let opened : is_open now.active txn ≡ true =
    ap (λ (h : HeapState). is_open h.active txn) left ∙ open_begun (old.heap.begun + 1) txn old.heap.active
    ∙ ap (λ (b : Bool). is_open old.heap.active txn || b) same ∙ or_true (is_open old.heap.active txn) in
    sym (ap (λ (l : List LogRec). committed l txn) (ap (λ (h : HeapState). h.log) left ∙ known)) ∙ holds.uncommitted txn opened

-- nor has it written: who wrote was begun before
pub begun_unwritten :
    (old new : LiveState) (log : List LogRec) (txn : ℕ) → OnHeap Begins old txn new → HoldsFollowLog old.heap → old.heap.log ≡ log → (rid : Rid)
    → wrote log txn rid ≡ false
begun_unwritten old new log txn does holds known rid = elim (cases_Bool (wrote log txn rid)) [
  | inl has ↦
      let begun = holds.begun txn rid (ap (λ (l : List LogRec). wrote l txn rid) known ∙ has) in
      let next : old.heap.begun + 1 ≡ txn = sym does.0.0 in
      absurd (omega (arith, begun, next))
  | inr none ↦ none
]

-- the cause of a refusal, as a call answers it
pub refused_for :
    (cause : Option Fault) (old new : LiveState) (fault : Fault) → Refused cause (λ before after. after ≡ before) old fault new → RefusedFor cause fault
refused_for cause old new fault (inl is) = inl is.0
refused_for cause old new fault (inr want) = inr (want.0, want.1)

-- it is a cause on the log of the table
pub cause_on :
    (cause : HeapState → Option Fault) (heap : HeapState) (log : List LogRec) (fault : Fault) → heap.log ≡ log → HoldsFollowLog heap
    → RefusedFor (cause heap) fault → CauseOn cause log fault
cause_on cause heap log fault known holds for = (heap, record { log_is = known; holds = holds }, for)

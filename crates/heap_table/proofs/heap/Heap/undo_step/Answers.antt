use Rattle.std.proofs.Common.{◌≡◌, ◌∙◌, ℕ, List, None, Ok, refl, sym, ap, subst, arith}
use Rattle.heap_log.specs.Standing.{newest_standing}
use Rattle.heap_table.specs.Calls.{Undoes}
use Rattle.heap_table.specs.HeapState.{HeapState, after_step, undone_number, without}
use Rattle.heap_table.specs.HeapValue.{HeapValue}
use Rattle.heap_table.specs.Inside.{heap_value}
use Rattle.heap_table.specs.declared.open_txn.OpenTxn.{OpenTxn}
use Rattle.heap_table.proofs.KeptChanges.{kept_same}
use Rattle.heap_table.proofs.KeptTxns.{txns_same}
use Rattle.heap_table.proofs.OpenOnes.{without_fewer}
use Rattle.heap_table.proofs.Sounds.{sound_ended}
use Rattle.heap_table.proofs.Holding.{none_standing}
use Rattle.heap_table.proofs.heap.Heap.undo_step.Goals as goal

-- a transaction of which no write stands just ends
ends :
    (s t : HeapState) (txn : ℕ) (active : List OpenTxn) → s ≡ t → newest_standing t.log txn ≡ None → active ≡ without txn s.active
    → Undoes txn t (record { number = 0; left = 0 }) (record s { active = active })
ends s t txn active same newest left =
    subst (λ (u : HeapState). newest_standing u.log txn ≡ None → Undoes txn u (record { number = 0; left = 0 }) (record s { active = active })) same (λ none. (
      ap (undone_number s) (sym none),
      sym (none_standing s.log txn none),
      ap (λ (rest : List OpenTxn). record s { active = rest }) left ∙ ap (after_step s txn) (sym none),
    )) newest

pub invariant_of-self : goal.invariant_of-self
invariant_of-self c =
    let same = ap (λ (h : HeapValue). h.state) c.self.view_is ∙ c.in_ok-ready.ensures.same in
    let newest : newest_standing c.self.inside.log.records c.args.txn ≡ None =
    subst (λ (s : HeapState). newest_standing s.log c.args.txn ≡ None) (sym same) (c.in_ok-ready.ensures.none (ap Ok c.in_default.is)) in
    record {
      kept = kept_same _ _ c.self.inside.pages c.self.inside.pages refl refl refl refl refl refl
          (sound_ended _ _ c.args.txn c.self.invariant.kept.sound refl c.end.ensures refl newest) c.self.invariant.kept;
      room = c.self.invariant.room;
      txns = txns_same _ _ _ _ _ c.self.invariant.txns refl
          (λ txn e. without_fewer c.args.txn txn c.self.inside.open_txns.items (rw c.end.ensures at e)) (omega arith);
    }

pub returns-in_default-clause-undone : goal.returns-in_default-clause-undone
returns-in_default-clause-undone c = (
  c.in_ok-ready.ensures.accepted,
  ends (heap_value c.self.inside).state c.args.self.now.state c.args.txn c.end.new.open_txns.items
      (ap (λ (h : HeapValue). h.state) c.self.view_is ∙ c.in_ok-ready.ensures.same)
      (c.in_ok-ready.ensures.none (ap Ok c.in_default.is)) c.end.ensures,
)

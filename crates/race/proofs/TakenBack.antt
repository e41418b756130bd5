-- What an undo leaves of a transaction.
use Rattle.std.proofs.Common.{◌≡◌, ℕ, ◌+◌, ◌<◌, Bool, true, false, List, [], ◌∷◌, ◌++◌, length, Option, Some, None, refl, subst, sym, ap, ◌∙◌, arith, inl, inr}
use Rattle.std.specs.Prelude.{◌||◌, ◌&&◌, ◌==◌, not}
use Rattle.std.proofs.lemmas.Bool.{cases_Bool, cases_eq, ne_eqb, eq-eqb, and_right, not_from_true, cond-false, false≢true}
use Rattle.std.proofs.Math.Bool.{or-true, or-false}
use Rattle.heap_log.specs.declared.record.LogRec.{LogRec}
use Rattle.heap_log.specs.declared.record.LogRec.TheVariants.{Undo}
use Rattle.heap_log.specs.Standing.{record_at, undone, is_write_of, count_below, stands_of, newest_standing, standing_count}
use Rattle.heap_log.proofs.Last.{IsLast, last_below_some, count_below-more, count_below_taken}
use Rattle.heap_log.proofs.Records.{record_at-kept, record_at-added, length-added, undone-added, or_no}
use Rattle.heap_table.specs.Calls.{Undoes}
use Rattle.heap_table.specs.HeapState.{HeapState, after_step, is_open, still_open, without}
use Rattle.heap_table.specs.declared.open_txn.OpenTxn.{OpenTxn}
use Rattle.heap_table.specs.declared.undone.Undone.{Undone}
use Rattle.heap_table.proofs.Holding.{none_standing}
use Rattle.heap_table.proofs.OpenOnes.{open_begun, open_marked, open_without_self, without_fewer}
use Rattle.race.specs.Rows.{OpensNone}

-- the undone write stands no more
taken : (log : List LogRec) (txn n : ℕ) → stands_of (log ++ Undo txn n ∷ []) txn n ≡ false
taken log txn n =
    let new : List LogRec = log ++ Undo txn n ∷ [] in
    let gone : undone new n ≡ true = undone-added log (Undo txn n) n ∙ ap (λ b. undone log n || b) (eq-eqb n n refl) ∙ or-true (undone log n) in
    and_right (is_write_of txn (record_at new n)) (not (undone new n)) (not_from_true (undone new n) gone)

-- the others stand as before
others : (log : List LogRec) (txn n k : ℕ) → k < length log + 1 → (k ≡ n → ⊥) → stands_of (log ++ Undo txn n ∷ []) txn k ≡ stands_of log txn k
others log txn n k inside other =
    rw (record_at-kept log (Undo txn n) k inside) (ap (λ b. is_write_of txn (record_at log k) && not b)
    (undone-added log (Undo txn n) k ∙ ap (λ b. undone log k || b) (ne_eqb n k (λ e. other (sym e))) ∙ or_no (undone log k)))

-- an undo is no write
at_end : (log : List LogRec) (txn n : ℕ) → stands_of (log ++ Undo txn n ∷ []) txn (length log + 1) ≡ false
at_end log txn n = rw (record_at-added log (Undo txn n)) refl

-- the undo of a transaction's newest write leaves fewer
fewer : (log : List LogRec) (txn n : ℕ) → newest_standing log txn ≡ Some n → standing_count (log ++ Undo txn n ∷ []) txn < standing_count log txn
fewer log txn n is =
    let old : ℕ → Bool = stands_of log txn in
    let new : ℕ → Bool = stands_of (log ++ Undo txn n ∷ []) txn in
    let last : IsLast old (length log + 1) n = last_below_some old (length log + 1) n is in
    let less : count_below new (length log + 1) + 1 ≡ count_below old (length log + 1) =
    count_below_taken old new (length log + 1) n last.below last.passes (taken log txn n) (others log txn n) in
    let whole : standing_count (log ++ Undo txn n ∷ []) txn ≡ count_below new (length log + 1) =
    ap (λ k. count_below new (k + 1)) (length-added log (Undo txn n))
    ∙ count_below-more new (length log + 1)
    ∙ cond-false (new (length log + 1)) (count_below new (length log + 1) + 1) (count_below new (length log + 1)) (at_end log txn n) in
    rw whole (omega (arith, less))

fewer_step : (heap : HeapState) (txn : ℕ) (newest : Option ℕ) → newest_standing heap.log txn ≡ newest → 0 < standing_count (after_step heap txn newest).log txn
    → standing_count (after_step heap txn newest).log txn < standing_count heap.log txn
fewer_step heap txn None is some =
    let stands : 0 < standing_count heap.log txn = some in
    absurd (omega (arith, none_standing heap.log txn is))
fewer_step heap txn (Some n) is some = fewer heap.log txn n is

-- where writes are left, there are fewer than before
pub fewer_left :
    (old new : HeapState) (txn : ℕ) (told : Undone) → Undoes txn old told new → 0 < told.left
    → standing_count new.log txn < standing_count old.log txn
fewer_left old new txn told (number, left, after) some =
    subst (λ (heap : HeapState). standing_count heap.log txn < standing_count old.log txn) (sym after)
    (fewer_step old txn (newest_standing old.log txn) refl
    (subst (λ (n : ℕ). 0 < n) (left ∙ ap (λ (heap : HeapState). standing_count heap.log txn) after) some))

ended_step : (heap : HeapState) (txn : ℕ) (newest : Option ℕ) → standing_count (after_step heap txn newest).log txn ≡ 0
    → is_open (after_step heap txn newest).active txn ≡ false
ended_step heap txn None none = open_without_self txn heap.active
ended_step heap txn (Some n) none =
    subst (λ (left : ℕ). is_open (still_open txn left heap.active) txn ≡ false) (sym none) (open_without_self txn heap.active)

-- with none of its writes left the transaction has ended
pub has_ended : (old new : HeapState) (txn : ℕ) (told : Undone) → Undoes txn old told new → told.left ≡ 0 → is_open new.active txn ≡ false
has_ended old new txn told (number, left, after) none =
    ap (λ (heap : HeapState). is_open heap.active txn) after
    ∙ ended_step old txn (newest_standing old.log txn) (ap (λ (heap : HeapState). standing_count heap.log txn) (sym after) ∙ sym left ∙ none)

still_opens_none : (txn other left : ℕ) (active : List OpenTxn) → is_open (still_open txn left active) other ≡ true → is_open active other ≡ true
still_opens_none txn other left active e = elim (cases_Bool (left == 0)) [
  | inl ended ↦ without_fewer txn other active (rw ended at e)
  | inr more ↦ sym (open_marked txn other active) ∙ (rw more at e)
]

step_opens_none : (heap : HeapState) (txn : ℕ) (newest : Option ℕ) → OpensNone heap (after_step heap txn newest)
step_opens_none heap txn None = λ other e. without_fewer txn other heap.active e
step_opens_none heap txn (Some n) = λ other e. still_opens_none txn other (standing_count (after_step heap txn (Some n)).log txn) heap.active e

-- an undo step opens nothing
pub undo_opens_none : (old new : HeapState) (txn : ℕ) (told : Undone) → Undoes txn old told new → OpensNone old new
undo_opens_none old new txn told (number, left, after) = subst (OpensNone old) (sym after) (step_opens_none old txn (newest_standing old.log txn))

begun_other : (opened same : Bool) → same ≡ false → (opened || same) ≡ true → opened ≡ true
begun_other opened same apart e = sym (or-false opened) ∙ ap (λ (b : Bool). opened || b) (sym apart) ∙ e

-- the one that has begun has ended
pub begun_ended :
    (old new : HeapState) (active : List OpenTxn) (txn : ℕ) → active ≡ old.active ++ record { txn = txn; ending = false } ∷ [] → is_open new.active txn ≡ false
    → ((other : ℕ) → is_open new.active other ≡ true → is_open active other ≡ true) → OpensNone old new
begun_ended old new active txn begun ended fewer = λ other e. elim (cases_eq other txn) [
  | inl same ↦ absurd (false≢true (sym ended ∙ ap (is_open new.active) (sym same) ∙ e))
  | inr differs ↦
      begun_other (is_open old.active other) (txn == other) (ne_eqb txn other (λ is. differs (sym is)))
      (sym (open_begun txn other old.active) ∙ ap (λ (them : List OpenTxn). is_open them other) (sym begun) ∙ fewer other e)
]

-- it committed
pub begun_committed :
    (old new : HeapState) (active : List OpenTxn) (txn : ℕ) → active ≡ old.active ++ record { txn = txn; ending = false } ∷ []
    → new.active ≡ without txn active → OpensNone old new
begun_committed old new active txn begun after =
    begun_ended old new active txn begun (ap (λ (them : List OpenTxn). is_open them txn) after ∙ open_without_self txn active)
    (λ other e. without_fewer txn other active (ap (λ (them : List OpenTxn). is_open them other) (sym after) ∙ e))

-- What an undo leaves of a transaction.
use Rattle.std.proofs.Common.{◌≡◌, ℕ, zero, suc, ◌+◌, ◌<◌, Bool, true, false, List, [], ◌∷◌, ◌++◌, length, Option, Some, None, refl, subst, sym, ap, ◌∙◌}
use Rattle.std.proofs.Common.{arith, inl, inr}
use Rattle.std.specs.Prelude.{◌||◌, ◌&&◌, not}
use Rattle.std.proofs.lemmas.Bool.{cases_Bool, ne_eqb, eq-eqb, and_right, not_from_true, cond-true, cond-false}
use Rattle.keybytes.specs.declared.fault.Fault.{Fault}
use Rattle.heap_log.specs.declared.record.LogRec.{LogRec}
use Rattle.heap_log.specs.declared.record.LogRec.TheVariants as logged
use Rattle.heap_log.specs.Standing.{record_at, undone, is_write_of, last_below, count_below, stands_of, newest_standing, standing_count}
use Rattle.heap_log.proofs.Last.{IsLast, last_below_some, count_below-more, count_below_taken}
use Rattle.heap_log.proofs.Records.{record_at-kept, record_at-added, length-added, undone-added, or_no}
use Rattle.heap_table.specs.HeapState.{HeapState, is_open, still_open, after_step}
use Rattle.heap_table.proofs.OpenOnes.{open_without_self}
use Rattle.build_events.specs.CoreState.{CoreState}
use Rattle.build_events.specs.Steps.{Step}
use Rattle.build_events.specs.declared.event.Event.TheVariants.{Undo}
use Rattle.build_events.specs.declared.reply.Reply.TheVariants.{Undone, Refused}

no_refusal : (number left : ℕ) (fault : Fault) → Undone number left ≡ Refused fault → ⊥
no_refusal number left fault e = cc

same_left : (number left other more : ℕ) → Undone number left ≡ Undone other more → left ≡ more
same_left number left other more e = cc

-- what an undo leaves, and how many writes are left
undid : (old new : CoreState) (txn number left : ℕ) → Step old (Undo txn) (Undone number left) new
    → (new.live.heap ≡ after_step old.live.heap txn (newest_standing old.live.heap.log txn)) × (left ≡ standing_count new.live.heap.log txn)
undid old new txn number left (inl refused) = absurd (no_refusal number left refused.0 refused.1)
undid old new txn number left (inr (none, (told, is, (((first, count, after), kept), same)))) =
    (after, same_left number left told.number told.left is ∙ count)

-- with none of its writes left the transaction has ended
ended_step : (heap : HeapState) (txn : ℕ) (newest : Option ℕ) → standing_count (after_step heap txn newest).log txn ≡ 0
    → is_open (after_step heap txn newest).active txn ≡ false
ended_step heap txn None none = open_without_self txn heap.active
ended_step heap txn (Some n) none =
    subst (λ (left : ℕ). is_open (still_open txn left heap.active) txn ≡ false) (sym none) (open_without_self txn heap.active)

pub has_ended : (old new : CoreState) (txn number : ℕ) → Step old (Undo txn) (Undone number 0) new → is_open new.live.heap.active txn ≡ false
has_ended old new txn number step =
    let (after, none) = undid old new txn number 0 step in
    let left = ap (λ (heap : HeapState). standing_count heap.log txn) (sym after) ∙ sym none in
    ap (λ (heap : HeapState). is_open heap.active txn) after ∙ ended_step old.live.heap txn (newest_standing old.live.heap.log txn) left

-- where none is the last, none is counted
none_left : (p : ℕ → Bool) (n : ℕ) → last_below p n ≡ None → count_below p n ≡ 0
none_left p zero none = refl
none_left p (suc n) none = elim (cases_Bool (p n)) [
  | inl hit ↦ absurd (let both : Some n ≡ None = sym (cond-true (p n) (Some n) (last_below p n) hit) ∙ none in cc)
  | inr miss ↦
      cond-false (p n) (count_below p n + 1) (count_below p n) miss
      ∙ none_left p n (sym (cond-false (p n) (Some n) (last_below p n) miss) ∙ none)
]

or_true : (b : Bool) → (b || true) ≡ true
or_true true = refl
or_true false = refl

-- the undone write stands no more
taken : (log : List LogRec) (txn n : ℕ) → stands_of (log ++ logged.Undo txn n ∷ []) txn n ≡ false
taken log txn n =
    let new : List LogRec = log ++ logged.Undo txn n ∷ [] in
    let gone : undone new n ≡ true = undone-added log (logged.Undo txn n) n ∙ ap (λ b. undone log n || b) (eq-eqb n n refl) ∙ or_true (undone log n) in
    and_right (is_write_of txn (record_at new n)) (not (undone new n)) (not_from_true (undone new n) gone)

-- the others stand as before
others : (log : List LogRec) (txn n k : ℕ) → k < length log + 1 → (k ≡ n → ⊥)
    → stands_of (log ++ logged.Undo txn n ∷ []) txn k ≡ stands_of log txn k
others log txn n k inside other =
    rw (record_at-kept log (logged.Undo txn n) k inside) (ap (λ b. is_write_of txn (record_at log k) && not b)
    (undone-added log (logged.Undo txn n) k ∙ ap (λ b. undone log k || b) (ne_eqb n k (λ e. other (sym e))) ∙ or_no (undone log k)))

-- an undo is no write
at_end : (log : List LogRec) (txn n : ℕ) → stands_of (log ++ logged.Undo txn n ∷ []) txn (length log + 1) ≡ false
at_end log txn n = rw (record_at-added log (logged.Undo txn n)) refl

-- the undo of a transaction's newest write leaves fewer
fewer : (log : List LogRec) (txn n : ℕ) → newest_standing log txn ≡ Some n → standing_count (log ++ logged.Undo txn n ∷ []) txn < standing_count log txn
fewer log txn n is =
    let old : ℕ → Bool = stands_of log txn in
    let new : ℕ → Bool = stands_of (log ++ logged.Undo txn n ∷ []) txn in
    let last : IsLast old (length log + 1) n = last_below_some old (length log + 1) n is in
    let less : count_below new (length log + 1) + 1 ≡ count_below old (length log + 1) = count_below_taken old new (length log + 1) n last.below last.passes (taken log txn n) (others log txn n) in
    let whole : standing_count (log ++ logged.Undo txn n ∷ []) txn ≡ count_below new (length log + 1) =
    ap (λ k. count_below new (k + 1)) (length-added log (logged.Undo txn n))
    ∙ count_below-more new (length log + 1)
    ∙ cond-false (new (length log + 1)) (count_below new (length log + 1) + 1) (count_below new (length log + 1)) (at_end log txn n) in
    rw whole (omega (arith, less))

fewer_step : (heap : HeapState) (txn : ℕ) (newest : Option ℕ) → newest_standing heap.log txn ≡ newest
    → (standing_count (after_step heap txn newest).log txn ≡ 0 → ⊥) → standing_count (after_step heap txn newest).log txn < standing_count heap.log txn
fewer_step heap txn None is some = absurd (some (none_left (stands_of heap.log txn) (length heap.log + 1) is))
fewer_step heap txn (Some n) is some = fewer heap.log txn n is

-- where writes are left, there are fewer than before
pub fewer_left : (old new : CoreState) (txn number left : ℕ) → Step old (Undo txn) (Undone number left) new → (left ≡ 0 → ⊥)
    → standing_count new.live.heap.log txn < standing_count old.live.heap.log txn
fewer_left old new txn number left step some =
    let (after, count) = undid old new txn number left step in
    let none : standing_count (after_step old.live.heap txn (newest_standing old.live.heap.log txn)).log txn ≡ 0 → ⊥ =
    λ ended. some (count ∙ ap (λ (heap : HeapState). standing_count heap.log txn) after ∙ ended) in
    subst (λ (heap : HeapState). standing_count heap.log txn < standing_count old.live.heap.log txn) (sym after)
    (fewer_step old.live.heap txn (newest_standing old.live.heap.log txn) refl none)

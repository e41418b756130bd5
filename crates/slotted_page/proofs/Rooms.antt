-- The lowest free slot, and what a change of one slot does to it.
use Rattle.std.proofs.Common.{◌≡◌, ℕ, ◌+◌, ◌≤◌, ◌<◌, suc, zero, List, [], ◌∷◌, ◌++◌, length, get_or, set, refl, sym, ap, ◌∙◌, arith, true, false, inl, inr}
use Rattle.std.specs.Prelude.{min}
use Rattle.std.proofs.lemmas.Bool.{cases_lt, false≢true}
use Rattle.std.proofs.lemmas.List.{length-set, get_or-set_same, get_or-set_other}
use Rattle.std.proofs.lemmas.List.Sums.{position_or_len_is, fails_before_first, passes_at_first, prefix_len-le-length}
use Rattle.std.proofs.lemmas.List.Folds.{position_or_len-set, position_or_len_push}
use Rattle.slotted_page.specs.Slot.{Slot, free, is_free, lowest_free, put}
use Rattle.slotted_page.specs.Entry.{slot_of, is_free_entry}
use Rattle.slotted_page.specs.Image.{image_entries, slots_in}
use Rattle.slotted_page.specs.declared.entry.Entry.{Entry}
use Rattle.slotted_page.specs.declared.entry.Entry.TheVariants.{Free, Held, Row}
use Rattle.slotted_page.proofs.Images.{slot_of_image}
use Rattle.slotted_page.proofs.PageValues.{put_is_set}

same_free : (image : List ℕ) (e : Entry) → is_free_entry e ≡ is_free (slot_of image e)
same_free image Free = refl
same_free image (Held r) = refl
same_free image (Row o l r) = refl

-- whether a slot is free, by its entry
pub free_at : (image : List ℕ) (s : ℕ) (e : Entry) → s < length (slots_in image) → e ≡ get_or (image_entries image) s Free →
    is_free (get_or (slots_in image) s free) ≡ is_free_entry e
free_at image s e lt is = ap is_free (slot_of_image image s lt ∙ ap (slot_of image) (sym is)) ∙ sym (same_free image e)

pub lowest_within : (slots : List Slot) → lowest_free slots ≤ length slots
lowest_within slots = prefix_len-le-length _ slots

taken_below : (slots : List Slot) (k : ℕ) → k < lowest_free slots → is_free (get_or slots k free) ≡ false
taken_below slots k lt = fails_before_first is_free slots k free lt

lowest_is : (slots : List Slot) (i : ℕ) → i ≤ length slots → ((k : ℕ) → k < i → is_free (get_or slots k free) ≡ false) →
    (i < length slots → is_free (get_or slots i free) ≡ true) → lowest_free slots ≡ i
lowest_is slots i le below at = position_or_len_is is_free slots i free le below at

-- a search that has come to a free slot
pub lowest_here : (slots : List Slot) (i : ℕ) → i ≤ lowest_free slots → is_free (get_or slots i free) ≡ true → i ≡ lowest_free slots
lowest_here slots i le at = let w = lowest_within slots in sym (lowest_is slots i (omega arith) (λ k lt. taken_below slots k (omega arith)) (λ _. at))

-- a search that has come to a slot that is not free
pub lowest_behind : (slots : List Slot) (i : ℕ) → i ≤ lowest_free slots → i < length slots → is_free (get_or slots i free) ≡ false →
    i + 1 ≤ lowest_free slots
lowest_behind slots i le lt taken = elim (cases_lt i (lowest_free slots)) [
  | inl below ↦ omega arith
  | inr above ↦
      let e : i ≡ lowest_free slots = omega arith in
      absurd (false≢true (sym taken ∙ ap (λ (k : ℕ). is_free (get_or slots k free)) e ∙ passes_at_first is_free slots free (omega arith)))
]

taken_after : (slots : List Slot) (s : ℕ) (x : Slot) (k : ℕ) → is_free x ≡ false → s < length slots → is_free (get_or slots k free) ≡ false →
    is_free (get_or (set slots s x) k free) ≡ false
taken_after [] s x k taken lt was = absurd (omega arith)
taken_after (y ∷ slots) zero x zero taken lt was = taken
taken_after (y ∷ slots) zero x (suc k) taken lt was = was
taken_after (y ∷ slots) (suc s) x zero taken lt was = was
taken_after (y ∷ slots) (suc s) x (suc k) taken lt was = taken_after slots s x k taken (omega arith) was

free_after : (slots : List Slot) (s k : ℕ) → is_free (get_or slots k free) ≡ true → is_free (get_or (set slots s free) k free) ≡ true
free_after [] s k was = was
free_after (y ∷ slots) zero zero was = refl
free_after (y ∷ slots) zero (suc k) was = was
free_after (y ∷ slots) (suc s) zero was = was
free_after (y ∷ slots) (suc s) (suc k) was = free_after slots s k was

-- another slot, which is free if the old one was
pub lowest_same : (slots : List Slot) (s : ℕ) (x : Slot) → s < length slots → is_free x ≡ is_free (get_or slots s free) →
    lowest_free (put slots s x) ≡ lowest_free slots
lowest_same slots s x lt e = ap lowest_free (put_is_set slots s x lt) ∙ position_or_len-set is_free slots s x free e

-- a slot taken
pub lowest_taken : (slots : List Slot) (s : ℕ) (x : Slot) → s < length slots → is_free x ≡ false → lowest_free slots ≤ lowest_free (put slots s x)
lowest_taken slots s x lt taken =
    let now = set slots s x in
    let n = length-set slots s x in
    let w = lowest_within slots in
    let le : lowest_free slots ≤ lowest_free now = elim (cases_lt (lowest_free now) (lowest_free slots)) [
      | inl below ↦
          absurd (false≢true (sym (taken_after slots s x (lowest_free now) taken lt (taken_below slots (lowest_free now) below))
          ∙ passes_at_first is_free now free (omega arith)))
      | inr above ↦ above
    ] in
    rw (put_is_set slots s x lt) le

-- a slot freed
pub lowest_freed : (slots : List Slot) (s : ℕ) → s < length slots → lowest_free (put slots s free) ≡ min (lowest_free slots) s
lowest_freed slots s lt =
    let w = lowest_within slots in
    let now = set slots s free in
    let n = length-set slots s free in
    ap lowest_free (put_is_set slots s free lt)
    ∙ lowest_is now (min (lowest_free slots) s) (omega arith)
    (λ k below. ap is_free (get_or-set_other slots s k free free (omega arith)) ∙ taken_below slots k (omega arith))
    (λ there. elim (cases_lt (lowest_free slots) s) [
      | inl below ↦
          let e : min (lowest_free slots) s ≡ lowest_free slots = omega arith in
          rw e (free_after slots s (lowest_free slots) (passes_at_first is_free slots free (omega arith)))
      | inr above ↦
          let e : min (lowest_free slots) s ≡ s = omega arith in
          rw e (ap is_free (get_or-set_same slots s free free lt))
    ])

-- a free slot added
pub lowest_push : (slots : List Slot) → lowest_free (slots ++ free ∷ []) ≡ lowest_free slots
lowest_push slots = let w = lowest_within slots in grind (arith, position_or_len_push is_free slots free)

-- Pages as values: a slot put into a page, and what an answer of `room_for` says.
use Rattle.std.proofs.Common.{◌≡◌, ℕ, ◌+◌, ◌≤◌, ◌<◌, suc, zero, List, [], ◌∷◌, ◌++◌, length, get_or, set, refl, sym, ap, ◌∙◌, arith, Bool, true, false, cond}
use Rattle.std.proofs.Common.{Option, Some, None}
use Rattle.std.specs.Prelude.{position, nat_lt, ◌&&◌}
use Rattle.std.proofs.lemmas.Bool.{leb-true, ltb-true, false≢true}
use Rattle.std.proofs.lemmas.List.{get_or_past, length-set}
use Rattle.std.proofs.lemmas.List.Sums.{sum_by-set}
use Rattle.std.proofs.lemmas.List.Quantifiers.{position-Some}
use Rattle.slotted_page.specs.Slot.{Slot, free, held, row, is_free, reserve_of, settled, total_reserve, put, IsRow, IsHeld}
use Rattle.slotted_page.specs.Page.{PageValue, slot_at, with_slot, taken_bytes, has_room, slot_for, room_for}

pub put_is_set : (slots : List Slot) (s : ℕ) (x : Slot) → s < length slots → put slots s x ≡ set slots s x
put_is_set [] s x lt = absurd (omega arith)
put_is_set (y ∷ slots) zero x lt = refl
put_is_set (y ∷ slots) (suc s) x lt = ap (λ ys. y ∷ ys) (put_is_set slots s x (omega arith))

pub put_push : (slots : List Slot) (s : ℕ) (x : Slot) → s ≡ length slots → put slots s x ≡ slots ++ x ∷ []
put_push [] s x e = refl
put_push (y ∷ slots) zero x e = absurd (omega arith)
put_push (y ∷ slots) (suc s) x e = ap (λ ys. y ∷ ys) (put_push slots s x (omega arith))

pub put_same : (slots : List Slot) (s : ℕ) (x : Slot) → s < length slots → get_or slots s free ≡ x → put slots s x ≡ slots
put_same [] s x lt e = absurd (omega arith)
put_same (y ∷ slots) zero x lt e = ap (λ z. z ∷ slots) (sym e)
put_same (y ∷ slots) (suc s) x lt e = ap (λ ys. y ∷ ys) (put_same slots s x (omega arith) e)

-- a slot with nothing to settle
pub settled_stays : (page : PageValue) (s : ℕ) → s < length page.slots → slot_at page s ≡ settled (slot_at page s)
    → page ≡ with_slot page s (settled (slot_at page s))
settled_stays page s lt same =
    ap (λ (slots : List Slot). let q : PageValue = record { slots = slots; limit = page.limit } in q) (sym (put_same page.slots s (settled (slot_at page s)) lt same))

pub put_put : (slots : List Slot) (s : ℕ) (x y : Slot) → s ≤ length slots → put (put slots s x) s y ≡ put slots s y
put_put [] zero x y le = refl
put_put [] (suc s) x y le = absurd (omega arith)
put_put (z ∷ slots) zero x y le = refl
put_put (z ∷ slots) (suc s) x y le = ap (λ ys. z ∷ ys) (put_put slots s x y (omega arith))

pub get_put : (slots : List Slot) (s : ℕ) (x : Slot) → s ≤ length slots → get_or (put slots s x) s free ≡ x
get_put [] zero x le = refl
get_put [] (suc s) x le = absurd (omega arith)
get_put (z ∷ slots) zero x le = refl
get_put (z ∷ slots) (suc s) x le = get_put slots s x (omega arith)

pub length_put : (slots : List Slot) (s : ℕ) (x : Slot) → s < length slots → length (put slots s x) ≡ length slots
length_put slots s x lt = ap length (put_is_set slots s x lt) ∙ length-set slots s x

pub put_total : (slots : List Slot) (s : ℕ) (x : Slot) → s < length slots →
    total_reserve (put slots s x) + reserve_of (get_or slots s free) ≡ total_reserve slots + reserve_of x
put_total slots s x lt =
    let h = sum_by-set reserve_of slots s x free lt in
    let e = ap total_reserve (put_is_set slots s x lt) in omega (arith, h, e)

-- a slot with the same reserve leaves the sum
pub same_total : (slots : List Slot) (s : ℕ) (x : Slot) → s < length slots → reserve_of (get_or slots s free) ≡ reserve_of x →
    total_reserve (set slots s x) ≡ total_reserve slots
same_total slots s x lt e = let h = sum_by-set reserve_of slots s x free lt in omega (arith, h, e)

-- a slot put twice
pub with_with : (page next : PageValue) (s : ℕ) (x y : Slot) → s ≤ length page.slots → next ≡ with_slot page s x →
    with_slot next s y ≡ with_slot page s y
with_with page next s x y le e =
    ap (λ (p : PageValue). with_slot p s y) e
    ∙ ap (λ (slots : List Slot). let p : PageValue = record { slots = slots; limit = page.limit } in p) (put_put page.slots s x y le)

pub get_with : (page next : PageValue) (s : ℕ) (x : Slot) → s ≤ length page.slots → next ≡ with_slot page s x → slot_at next s ≡ x
get_with page next s x le e = ap (λ (p : PageValue). slot_at p s) e ∙ get_put page.slots s x le

pub length_with : (page next : PageValue) (s : ℕ) (x : Slot) → s < length page.slots → next ≡ with_slot page s x →
    length next.slots ≡ length page.slots
length_with page next s x lt e = ap (λ (p : PageValue). length p.slots) e ∙ length_put page.slots s x lt

-- a slot that is not free is on the page
pub row_within : (slots : List Slot) (s : ℕ) → IsRow (get_or slots s free) → s < length slots
row_within [] s h = absurd h
row_within (x ∷ slots) zero h = omega arith
row_within (x ∷ slots) (suc s) h = let k = row_within slots s h in omega arith

pub held_within : (slots : List Slot) (s : ℕ) → IsHeld (get_or slots s free) → s < length slots
held_within [] s h = absurd h
held_within (x ∷ slots) zero h = omega arith
held_within (x ∷ slots) (suc s) h = let k = held_within slots s h in omega arith

-- what the slot of an insert of n bytes keeps
pub record RoomFacts (page : PageValue) (n s : ℕ) : Type 0 where
  pub there : s ≤ length page.slots
  pub is_free : slot_at page s ≡ free
  pub limit : s ≡ length page.slots → s < page.limit
  pub grow : s ≡ length page.slots → taken_bytes (length page.slots + 1) (total_reserve page.slots + n) ≤ 4096
  pub room : s < length page.slots → taken_bytes (length page.slots) (total_reserve page.slots) + n ≤ 4096

some_true : (b : Bool) (s t : ℕ) → Some s ≡ cond b (Some t) None → (b ≡ true) × (s ≡ t)
some_true true s t e = (refl, cc)
some_true false s t e = absurd cc

both_true : (a b : Bool) → (a && b) ≡ true → (a ≡ true) × (b ≡ true)
both_true true true e = (refl, refl)
both_true true false e = absurd (false≢true e)
both_true false b e = absurd (false≢true e)

free_slot : (x : Slot) → is_free x ≡ true → x ≡ free
free_slot free e = refl
free_slot (held r) e = absurd (false≢true e)
free_slot (row bytes r) e = absurd (false≢true e)

facts_from : (o : Option ℕ) (page : PageValue) (n s : ℕ) → position is_free page.slots ≡ o → Some s ≡ slot_for o page n → RoomFacts page n s
facts_from (Some i) page n s p e =
    let h = some_true (has_room (length page.slots) (total_reserve page.slots + n)) s i e in
    let w : s ≡ i = h.1 in
    let r = leb-true (taken_bytes (length page.slots) (total_reserve page.slots + n)) 4096 h.0 in
    let q = position-Some is_free page.slots i free p in
    let lt : i < length page.slots = q.0 in
    let fi = free_slot (get_or page.slots i free) q.1 in
    let f : slot_at page s ≡ free = ap (slot_at page) w ∙ fi in
    record {
      there = omega arith;
      is_free = f;
      limit = λ k. absurd (omega arith);
      grow = λ k. absurd (omega arith);
      room = λ k. omega (arith, r);
    }
facts_from None page n s p e =
    let h = some_true (nat_lt (length page.slots) page.limit && has_room (length page.slots + 1) (total_reserve page.slots + n)) s (length page.slots) e in
    let w : s ≡ length page.slots = h.1 in
    let b = both_true (nat_lt (length page.slots) page.limit) (has_room (length page.slots + 1) (total_reserve page.slots + n)) h.0 in
    let l = ltb-true (length page.slots) page.limit b.0 in
    let r = leb-true (taken_bytes (length page.slots + 1) (total_reserve page.slots + n)) 4096 b.1 in
    record {
      there = omega arith;
      is_free = get_or_past page.slots s free (omega arith);
      limit = λ k. omega (arith, l);
      grow = λ k. omega (arith, r);
      room = λ k. absurd (omega arith);
    }

pub room_facts : (page : PageValue) (n s : ℕ) → Some s ≡ room_for page n → RoomFacts page n s
room_facts page n s e = facts_from (position is_free page.slots) page n s refl e

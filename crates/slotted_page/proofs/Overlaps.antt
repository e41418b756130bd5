use Rattle.std.proofs.Common.{◌≡◌, ℕ, ◌+◌, ◌-◌, ◌≤◌, ◌<◌, ◌⊎◌, suc, zero, List, [], ◌∷◌, ◌++◌, length, get_or, set, take, drop, refl, sym, ap, ◌∙◌, arith}
use Rattle.std.proofs.Common.{subst, inl, inr}
use Rattle.std.specs.Prelude.{slice_range}
use Rattle.std.specs.List.{All, AllPairs}
use Rattle.std.proofs.lemmas.List.{take-take}
use Rattle.std.proofs.lemmas.List.Elements.{All-head, All-tail}
use Rattle.std.proofs.lemmas.Slice.{between_is}
use Rattle.slotted_page.specs.Slot.{Slot, row}
use Rattle.slotted_page.specs.Entry.{slot_of, slots_of, IsPlaced, Apart}
use Rattle.slotted_page.specs.declared.entry.Entry.{Entry}
use Rattle.slotted_page.specs.declared.entry.Entry.TheVariants.{Free, Held, Row}
use Rattle.slotted_page.proofs.Packing.{Stacked, same_drop, placed_from_stacked}

-- a row overlaps none of those
abbrev pub ApartAll : Entry → List Entry → Type 0
ApartAll e [] = Unit {0}
ApartAll e (x ∷ xs) = Apart e x × ApartAll e xs

-- no two rows overlap, by recursion
abbrev pub AllApart : List Entry → Type 0
AllApart [] = Unit {0}
AllApart (e ∷ es) = ApartAll e es × AllApart es

apart_all : (e : Entry) (es : List Entry) → ((j : ℕ) (d : Entry) → j < length es → Apart e (get_or es j d)) → ApartAll e es
apart_all e [] h = tt
apart_all e (x ∷ xs) h = (h 0 e (omega arith), apart_all e xs (λ j d lt. h (suc j) d (omega arith)))

pub apart_from_pairs : (es : List Entry) → AllPairs Apart es → AllApart es
apart_from_pairs [] h = tt
apart_from_pairs (e ∷ es) h =
    (apart_all e es (λ j d lt. h 0 (suc j) d (omega arith) (omega arith)), apart_from_pairs es (λ i j d lt le. h (suc i) (suc j) d (omega arith) (omega arith)))

apart_one : (e : Entry) (es : List Entry) (j : ℕ) (d : Entry) → j < length es → ApartAll e es → Apart e (get_or es j d)
apart_one e [] j d lt h = absurd (omega arith)
apart_one e (x ∷ xs) zero d lt h = h.0
apart_one e (x ∷ xs) (suc j) d lt h = apart_one e xs j d (omega arith) h.1

pub pairs_from_apart : (es : List Entry) → AllApart es → AllPairs Apart es
pairs_from_apart [] h i j d lt le = absurd (omega arith)
pairs_from_apart (e ∷ es) h zero zero d lt le = absurd (omega arith)
pairs_from_apart (e ∷ es) h (suc i) zero d lt le = absurd (omega arith)
pairs_from_apart (e ∷ es) h zero (suc j) d lt le = apart_one e es j d (omega arith) h.0
pairs_from_apart (e ∷ es) h (suc i) (suc j) d lt le = pairs_from_apart es h.1 i j d (omega arith) (omega arith)

-- an entry takes no byte that another did not have
abbrev pub Within : Entry → Entry → Type 0
Within Free was = Unit {0}
Within (Held r) was = Unit {0}
Within (Row o l r) Free = ⊥
Within (Row o l r) (Held s) = ⊥
Within (Row o l r) (Row p m s) = (p ≤ o) × (o + l ≤ p + m)

-- a row that ends at the floor is apart from what lies above it
above_apart : (floor o l r : ℕ) (e : Entry) → o + l ≤ floor → IsPlaced floor e → Apart (Row o l r) e
above_apart floor o l r Free le p = tt
above_apart floor o l r (Held s) le p = tt
above_apart floor o l r (Row q m s) le p = let h = p.0 in inl (omega arith)

below_apart : (floor o l r : ℕ) (e : Entry) → o + l ≤ floor → IsPlaced floor e → Apart e (Row o l r)
below_apart floor o l r Free le p = tt
below_apart floor o l r (Held s) le p = tt
below_apart floor o l r (Row q m s) le p = let h = p.0 in inr (omega arith)

above_all : (floor o l r : ℕ) (es : List Entry) → o + l ≤ floor → All (IsPlaced floor) es → ApartAll (Row o l r) es
above_all floor o l r [] le p = tt
above_all floor o l r (e ∷ es) le p =
    (above_apart floor o l r e le (All-head (IsPlaced floor) e es p), above_all floor o l r es le (All-tail (IsPlaced floor) e es p))

free_all : (e : Entry) (es : List Entry) → ((x : Entry) → Apart e x) → ApartAll e es
free_all e [] h = tt
free_all e (x ∷ xs) h = (h x, free_all e xs h)

pub apart_from_stacked : (floor : ℕ) (es : List Entry) → Stacked floor es → AllApart es
apart_from_stacked floor [] s = tt
apart_from_stacked floor (Free ∷ es) s = (free_all Free es (λ x. tt), apart_from_stacked floor es s)
apart_from_stacked floor (Held r ∷ es) s = (free_all (Held r) es (λ x. tt), apart_from_stacked floor es s)
apart_from_stacked floor (Row o l r ∷ es) s =
    (above_all (o + l) o l r es (omega arith) (placed_from_stacked (o + l) es s.4), apart_from_stacked (o + l) es s.4)

set_one : (e x : Entry) (es : List Entry) (s : ℕ) → Apart e x → ApartAll e es → ApartAll e (set es s x)
set_one e x [] s a h = tt
set_one e x (y ∷ ys) zero a h = (a, h.1)
set_one e x (y ∷ ys) (suc s) a h = (h.0, set_one e x ys s a h.1)

pub apart_store : (floor : ℕ) (es : List Entry) (s o l r : ℕ) → o + l ≤ floor → All (IsPlaced floor) es → AllApart es →
    AllApart (set es s (Row o l r))
apart_store floor [] s o l r le p a = tt
apart_store floor (e ∷ es) zero o l r le p a = (above_all floor o l r es le (All-tail (IsPlaced floor) e es p), a.1)
apart_store floor (e ∷ es) (suc s) o l r le p a = (
  set_one e (Row o l r) es s (below_apart floor o l r e le (All-head (IsPlaced floor) e es p)) a.0,
  apart_store floor es s o l r le (All-tail (IsPlaced floor) e es p) a.1,
)

push_free : (e : Entry) (es : List Entry) → ApartAll e es → Apart e Free → ApartAll e (es ++ Free ∷ [])
push_free e [] h f = (f, tt)
push_free e (x ∷ xs) h f = (h.0, push_free e xs h.1 f)

apart_free : (e : Entry) → Apart e Free
apart_free Free = tt
apart_free (Held r) = tt
apart_free (Row o l r) = tt

pub apart_push : (es : List Entry) → AllApart es → AllApart (es ++ Free ∷ [])
apart_push [] a = (tt, tt)
apart_push (e ∷ es) a = (push_free e es a.0 (apart_free e), apart_push es a.1)

within_left : (e was x : Entry) → Within e was → Apart was x → Apart e x
within_left Free was x w a = tt
within_left (Held r) was x w a = tt
within_left (Row o l r) Free x w a = absurd w
within_left (Row o l r) (Held s) x w a = absurd w
within_left (Row o l r) (Row p m s) Free w a = tt
within_left (Row o l r) (Row p m s) (Held t) w a = tt
within_left (Row o l r) (Row p m s) (Row q n t) w a = elim a [ inl h ↦ inl (omega arith) | inr h ↦ inr (omega arith) ]

within_right : (x e was : Entry) → Within e was → Apart x was → Apart x e
within_right Free e was w a = tt
within_right (Held t) e was w a = tt
within_right (Row q n t) Free was w a = tt
within_right (Row q n t) (Held r) was w a = tt
within_right (Row q n t) (Row o l r) Free w a = absurd w
within_right (Row q n t) (Row o l r) (Held s) w a = absurd w
within_right (Row q n t) (Row o l r) (Row p m s) w a = elim a [ inl h ↦ inl (omega arith) | inr h ↦ inr (omega arith) ]

within_all : (e was : Entry) (xs : List Entry) → Within e was → ApartAll was xs → ApartAll e xs
within_all e was [] w a = tt
within_all e was (x ∷ xs) w a = (within_left e was x w a.0, within_all e was xs w a.1)

set_within : (x e : Entry) (es : List Entry) (s : ℕ) → Within e (get_or es s Free) → ApartAll x es → ApartAll x (set es s e)
set_within x e [] s w a = tt
set_within x e (y ∷ ys) zero w a = (within_right x e y w a.0, a.1)
set_within x e (y ∷ ys) (suc s) w a = (a.0, set_within x e ys s w a.1)

-- an entry that takes no byte that its slot did not have
pub apart_set : (es : List Entry) (s : ℕ) (e : Entry) → Within e (get_or es s Free) → AllApart es → AllApart (set es s e)
apart_set [] s e w a = tt
apart_set (x ∷ xs) zero e w a = (within_all e x xs w a.0, a.1)
apart_set (x ∷ xs) (suc s) e w a = (set_within x e xs s w a.0, apart_set xs s e w a.1)

-- an area that differs from another in o to o + n at most
pub record SameBut (a b : List ℕ) (o n : ℕ) : Type 0 where
  pub before : take o b ≡ take o a
  pub after : drop (o + n) b ≡ drop (o + n) a

same_range : (a b : List ℕ) (o n p m : ℕ) → SameBut a b o n → (o + n ≤ p) ⊎ (p + m ≤ o) → slice_range b p (p + m) ≡ slice_range a p (p + m)
same_range a b o n p m k h = elim h [
  | inl le ↦ ap (take ((p + m) - p)) (same_drop b a (o + n) p le k.after)
  | inr le ↦
      between_is b p (p + m) ∙ ap (drop p) (sym (take-take (p + m) o b le) ∙ ap (take (p + m)) k.before ∙ take-take (p + m) o a le)
      ∙ sym (between_is a p (p + m))
]

slot_after : (a b : List ℕ) (o l r n : ℕ) (e : Entry) → n ≤ l → SameBut a b o n → Apart (Row o l r) e → slot_of b e ≡ slot_of a e
slot_after a b o l r n Free le k h = refl
slot_after a b o l r n (Held s) le k h = refl
slot_after a b o l r n (Row p m s) le k h =
    ap (λ xs. row xs s) (same_range a b o n p m k (elim h [ inl x ↦ inl (omega arith) | inr x ↦ inr x ]))

slot_before : (a b : List ℕ) (o l r n : ℕ) (e : Entry) → n ≤ l → SameBut a b o n → Apart e (Row o l r) → slot_of b e ≡ slot_of a e
slot_before a b o l r n Free le k h = refl
slot_before a b o l r n (Held s) le k h = refl
slot_before a b o l r n (Row p m s) le k h =
    ap (λ xs. row xs s) (same_range a b o n p m k (elim h [ inl x ↦ inr x | inr x ↦ inl (omega arith) ]))

slots_after : (a b : List ℕ) (o l r n : ℕ) (es : List Entry) → n ≤ l → SameBut a b o n → ApartAll (Row o l r) es →
    slots_of b es ≡ slots_of a es
slots_after a b o l r n [] le k h = refl
slots_after a b o l r n (e ∷ es) le k h =
    let x = slot_after a b o l r n e le k h.0 in
    let y = slots_after a b o l r n es le k h.1 in
    cc (x, y)

-- a write over a row's own bytes leaves the other slots
pub over_same : (a b : List ℕ) (o l r n : ℕ) (es : List Entry) (s : ℕ) (x : Slot) → n ≤ l → SameBut a b o n → s < length es →
    get_or es s Free ≡ Row o l r → AllApart es →
    set (slots_of b es) s x ≡ set (slots_of a es) s x
over_same a b o l r n [] s x le k lt is h = absurd (omega arith)
over_same a b o l r n (e ∷ es) zero x le k lt is h =
    let g : ApartAll (Row o l r) es = subst (λ (y : Entry). ApartAll y es) is h.0 in
    ap (λ ys. x ∷ ys) (slots_after a b o l r n es le k g)
over_same a b o l r n (e ∷ es) (suc s) x le k lt is h =
    let lt' : s < length es = omega arith in
    let g : Apart e (Row o l r) = subst (Apart e) is (apart_one e es s Free lt' h.0) in
    let y = slot_before a b o l r n e le k g in
    let z = over_same a b o l r n es s x le k lt' is h.1 in
    cc (y, z)

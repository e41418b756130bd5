use Rattle.std.proofs.Common.{◌≡◌, ℕ, ◌+◌, ◌-◌, ◌≤◌, ◌<◌, List, [], ◌∷◌, length, get_or, set, take, drop, refl, sym, ap, ◌∙◌, arith, subst}
use Rattle.std.specs.Prelude.{slice_range}
use Rattle.std.specs.List.{All, sum_by}
use Rattle.std.proofs.lemmas.List.{drop-drop, drop-set, drop_more, take-set, take-take}
use Rattle.std.proofs.lemmas.List.Elements.{All-head, All-tail, All-cons, All-nil, All-get_or}
use Rattle.std.proofs.lemmas.List.Edits.{length-between}
use Rattle.std.proofs.lemmas.List.Sums.{sum_by-drop_more, sum_by-take-drop}
use Rattle.slotted_page.specs.Slot.{row}
use Rattle.slotted_page.specs.Entry.{slot_of, slots_of, length_of, IsPlaced}
use Rattle.slotted_page.specs.declared.entry.Entry.{Entry}
use Rattle.slotted_page.specs.declared.entry.Entry.TheVariants.{Free, Held, Row}

-- the rows lie end to end from the floor to the page's end, in the order of their slots
abbrev pub Stacked : ℕ → List Entry → Type 0
Stacked floor [] = floor ≡ 4096
Stacked floor (Free ∷ entries) = Stacked floor entries
Stacked floor (Held r ∷ entries) = Stacked floor entries
Stacked floor (Row o l r ∷ entries) = (floor ≡ o) × (0 < l) × (l ≤ 1224) × (l ≤ r) × Stacked (o + l) entries

pub same_drop : (a b : List ℕ) (floor o : ℕ) → floor ≤ o → drop floor a ≡ drop floor b → drop o a ≡ drop o b
same_drop a b floor o le e =
    let k : floor + (o - floor) ≡ o = omega arith in
    let p : drop (floor + (o - floor)) a ≡ drop (floor + (o - floor)) b =
    sym (drop-drop (o - floor) floor a) ∙ ap (drop (o - floor)) e ∙ drop-drop (o - floor) floor b in
    rw k at p

pub slot_same : (a b : List ℕ) (floor : ℕ) (e : Entry) → drop floor a ≡ drop floor b → IsPlaced floor e → slot_of a e ≡ slot_of b e
slot_same a b floor Free d p = refl
slot_same a b floor (Held r) d p = refl
slot_same a b floor (Row o l r) d p = ap (λ xs. row (take ((o + l) - o) xs) r) (same_drop a b floor o p.0 d)

-- rows at or above the floor read the same in any area that is the same there
pub slots_same : (a b : List ℕ) (floor : ℕ) (es : List Entry) → drop floor a ≡ drop floor b → All (IsPlaced floor) es →
    slots_of a es ≡ slots_of b es
slots_same a b floor [] d p = refl
slots_same a b floor (e ∷ es) d p =
    let h = slot_same a b floor e d (All-head (IsPlaced floor) e es p) in
    let t = slots_same a b floor es d (All-tail (IsPlaced floor) e es p) in
    cc (h, t)

pub placed_lower : (low high : ℕ) (e : Entry) → low ≤ high → IsPlaced high e → IsPlaced low e
placed_lower low high Free le p = tt
placed_lower low high (Held r) le p = tt
placed_lower low high (Row o l r) le p = (omega arith, p.1, p.2, p.3, p.4)

pub all_lower : (low high : ℕ) (es : List Entry) → low ≤ high → All (IsPlaced high) es → All (IsPlaced low) es
all_lower low high [] le p = All-nil (IsPlaced low)
all_lower low high (e ∷ es) le p =
    All-cons (IsPlaced low) e es (placed_lower low high e le (All-head (IsPlaced high) e es p))
    (all_lower low high es le (All-tail (IsPlaced high) e es p))

pub stacked_within : (floor : ℕ) (es : List Entry) → Stacked floor es → floor ≤ 4096
stacked_within floor [] s = omega arith
stacked_within floor (Free ∷ es) s = stacked_within floor es s
stacked_within floor (Held r ∷ es) s = stacked_within floor es s
stacked_within floor (Row o l r ∷ es) s = let h = stacked_within (o + l) es s.4 in omega arith

pub placed_from_stacked : (floor : ℕ) (es : List Entry) → Stacked floor es → All (IsPlaced floor) es
placed_from_stacked floor [] s = All-nil (IsPlaced floor)
placed_from_stacked floor (Free ∷ es) s = All-cons (IsPlaced floor) Free es tt (placed_from_stacked floor es s)
placed_from_stacked floor (Held r ∷ es) s = All-cons (IsPlaced floor) (Held r) es tt (placed_from_stacked floor es s)
placed_from_stacked floor (Row o l r ∷ es) s =
    let h = stacked_within (o + l) es s.4 in
    All-cons (IsPlaced floor) (Row o l r) es (omega arith, h, s.1, s.2, s.3)
    (all_lower floor (o + l) es (omega arith) (placed_from_stacked (o + l) es s.4))

-- a row's entry at j, the last that is not packed yet: up to i the entries are as they were
pub record PacksRow (entries old : List Entry) (i j o l r : ℕ) : Type 0 where
  pub next : j + 1 ≡ i
  pub within : j < length entries
  pub old_within : j < length old
  pub front : take i entries ≡ take i old
  pub is : get_or old j Free ≡ Row o l r

-- the entries from j on, with the row's new place
packed_drop : {entries old : List Entry} {i j o l r : ℕ} → PacksRow entries old i j o l r → (next : ℕ) →
    drop j (set entries j (Row next l r)) ≡ Row next l r ∷ drop i entries
packed_drop {entries = entries} {j = j} {l = l} {r = r} k next = rw (← k.next) (drop-set entries j (Row next l r) k.within)

slot_next : (from to : List ℕ) (o l r next floor : ℕ) → next + l ≡ floor → slice_range to next floor ≡ slice_range from o (o + l) →
    slot_of to (Row next l r) ≡ slot_of from (Row o l r)
slot_next from to o l r next floor e w = rw e (ap (λ xs. row xs r) w)

pub rows_step : {entries old : List Entry} {i j o l r : ℕ} → PacksRow entries old i j o l r → (from to to' : List ℕ) (floor next : ℕ) →
    slots_of to (drop i entries) ≡ slots_of from (drop i old) → Stacked floor (drop i entries) → next + l ≡ floor →
    slice_range to' next floor ≡ slice_range from o (o + l) → drop floor to' ≡ drop floor to →
    slots_of to' (drop j (set entries j (Row next l r))) ≡ slots_of from (drop j old)
rows_step {entries = entries} {old = old} {i = i} {j = j} {o = o} {l = l} {r = r} k from to to' floor next rows stacked n w kept =
    let x = slot_next from to' o l r next floor n w in
    let b : drop j old ≡ get_or old j Free ∷ drop i old = rw (← k.next) (drop_more old j Free k.old_within) in
    let same : slots_of to' (drop i entries) ≡ slots_of to (drop i entries) =
    slots_same to' to floor (drop i entries) kept (placed_from_stacked floor (drop i entries) stacked) in
    rw (packed_drop k next, b, k.is) (cc (x, same, rows))

pub placed_at : (floor : ℕ) (es : List Entry) (j o l r : ℕ) → j < length es → get_or es j Free ≡ Row o l r → All (IsPlaced floor) es →
    IsPlaced floor (Row o l r)
placed_at floor es j o l r h is placed = subst (IsPlaced floor) is (All-get_or (IsPlaced floor) es j Free h placed)

pub stacked_step : {entries old : List Entry} {i j o l r : ℕ} → PacksRow entries old i j o l r → (floor next : ℕ) →
    All (IsPlaced 0) old → Stacked floor (drop i entries) → next + l ≡ floor → Stacked next (drop j (set entries j (Row next l r)))
stacked_step {entries = entries} {old = old} {j = j} {o = o} {l = l} {r = r} k floor next placed stacked n =
    let p = placed_at 0 old j o l r k.old_within k.is placed in
    rw (packed_drop k next) (refl, p.2, p.3, p.4, rw n stacked)

-- the lengths from j on: the row's, and all those behind it
pub lengths_step : {entries old : List Entry} {i j o l r : ℕ} → PacksRow entries old i j o l r →
    sum_by length_of (drop j old) ≡ l + sum_by length_of (drop i old)
lengths_step {old = old} {i = i} {j = j} {l = l} k =
    let p : length_of (get_or old j Free) ≡ l = ap length_of k.is in
    let s : sum_by length_of (drop j old) ≡ length_of (get_or old j Free) + sum_by length_of (drop (j + 1) old) =
    sum_by-drop_more length_of old j Free k.old_within in
    let t : sum_by length_of (drop j old) ≡ length_of (get_or old j Free) + sum_by length_of (drop i old) = rw k.next at s in
    rw p at t

-- the length of the row's bytes
pub bytes_step : {entries old : List Entry} {i j o l r : ℕ} → PacksRow entries old i j o l r → (area : List ℕ) → length area ≡ 4096 →
    All (IsPlaced 0) old → length (slice_range area o (o + l)) ≡ l
bytes_step {old = old} {j = j} {o = o} {l = l} {r = r} k area long placed =
    let p = placed_at 0 old j o l r k.old_within k.is placed in
    let le : o + l ≤ length area = omega (arith, p.1, long) in
    omega (arith, length-between area o (o + l) le)

pub front_less : {entries old : List Entry} {i j o l r : ℕ} → PacksRow entries old i j o l r → (x : Entry) →
    take j (set entries j x) ≡ take j old
front_less {entries = entries} {old = old} {i = i} {j = j} k x =
    let le : j ≤ i = omega (arith, k.next) in
    take-set entries j x ∙ sym (take-take j i entries le) ∙ ap (take j) k.front ∙ take-take j i old le

pub lengths_tail : (old : List Entry) (j : ℕ) → sum_by length_of (drop j old) ≤ sum_by length_of old
lengths_tail old j = omega (arith, sum_by-take-drop length_of old j)

-- The loop that packs a page: how far its rows are laid end to end.
use Rattle.std.proofs.Common.{◌≡◌, ℕ, ◌+◌, ◌-◌, ◌*◌, ◌≤◌, ◌<◌, List, [], ◌∷◌, ◌++◌, length, get_or, set, take, drop, refl, sym, ap, ◌∙◌, arith}
use Rattle.std.specs.Prelude.{slice_range}
use Rattle.std.specs.List.{flat_map, sum_by}
use Rattle.std.proofs.lemmas.List.{length-set, get_or-take, drop_all, drop_more, take-take}
use Rattle.std.proofs.lemmas.List.Sums.{sum_by-drop_more}
use Rattle.slotted_page.specs.Entry.{slot_of, slots_of, length_of}
use Rattle.keybytes.specs.Writes.{overwritten}
use Rattle.slotted_page.specs.Image.{number_at, entry_bytes, head_bytes, image_entries, slots_in, KeepsFormat}
use Rattle.slotted_page.specs.declared.entry.Entry.{Entry}
use Rattle.slotted_page.specs.declared.entry.Entry.TheVariants.{Free, Held, Row}
use Rattle.keybytes.proofs.Writes.{length-overwritten, take-overwritten, drop-overwritten, range-overwritten}
use Rattle.slotted_page.proofs.Packing.{Stacked, PacksRow, rows_step, stacked_step, lengths_step, lengths_tail, bytes_step, front_less, same_drop, all_lower}
use Rattle.slotted_page.proofs.Images.{length_entry, entries_front, entries_set, entries_count, slots_count}
use Rattle.slotted_page.proofs.Layouts.{Laid, laid_format, laid_packed, slots_laid, slots_packed, lengths_le}

-- the rows of the entries from i on are laid end to end from the floor, and their entries written
pub record Packs (from to : List ℕ) (i floor : ℕ) : Type 0 where
  pub now : List Entry
  pub long : length to ≡ 4096
  pub counted : length now ≡ number_at from 2
  pub within : i ≤ number_at from 2
  pub front : take i now ≡ take i (image_entries from)
  pub written : take (6 * number_at from 2) (drop 8 to) ≡ flat_map entry_bytes now
  pub rows : slots_of to (drop i now) ≡ slots_of from (drop i (image_entries from))
  pub stacked : Stacked floor (drop i now)
  pub floor_is : floor + sum_by length_of (drop i (image_entries from)) ≡ 4096

pub packs_none : {from : List ℕ} → KeepsFormat from → (count : ℕ) → count ≡ length (slots_in from) → Packs from from count 4096
packs_none {from = from} k count c =
    let es = image_entries from in
    let n = entries_count from in
    let m = slots_count from in
    let e : drop count es ≡ [] = drop_all count es (omega (arith, n, m)) in
    record {
      now = es;
      long = k.long;
      counted = n;
      within = omega arith;
      front = refl;
      written = k.entries;
      rows = refl;
      stacked = rw e refl;
      floor_is = rw e refl;
    }

front_same : (now old : List Entry) (i j : ℕ) → j < i → take i now ≡ take i old → get_or now j Free ≡ get_or old j Free
front_same now old i j lt e =
    sym (get_or-take i now j Free lt) ∙ ap (λ (xs : List Entry). get_or xs j Free) e ∙ get_or-take i old j Free lt

packs_empty : {from to : List ℕ} {i floor : ℕ} → Packs from to i floor → (j : ℕ) → j + 1 ≡ i → length_of (get_or (image_entries from) j Free) ≡ 0 →
    ((floor : ℕ) (es : List Entry) → Stacked floor es → Stacked floor (get_or (image_entries from) j Free ∷ es)) →
    slot_of to (get_or (image_entries from) j Free) ≡ slot_of from (get_or (image_entries from) j Free) → Packs from to j floor
packs_empty {from = from} {to = to} {i = i} {floor = floor} p j next none stack same =
    let old = image_entries from in
    let e = get_or old j Free in
    let n = entries_count from in
    let a : drop j old ≡ e ∷ drop i old = rw (← next) (drop_more old j Free (omega (arith, n, p.within))) in
    let g : get_or p.now j Free ≡ e = front_same p.now old i j (omega arith) p.front in
    let b : drop j p.now ≡ e ∷ drop i p.now =
    rw (← next) (drop_more p.now j Free (omega (arith, p.counted, p.within)) ∙ ap (λ (x : Entry). x ∷ drop (j + 1) p.now) g) in
    let s : sum_by length_of (drop j old) ≡ length_of e + sum_by length_of (drop (j + 1) old) =
    sum_by-drop_more length_of old j Free (omega (arith, n, p.within)) in
    let t : sum_by length_of (drop j old) ≡ length_of e + sum_by length_of (drop i old) = rw next at s in
    let r = p.rows in
    record {
      now = p.now;
      long = p.long;
      counted = p.counted;
      within = omega (arith, p.within);
      front = sym (take-take j i p.now (omega arith)) ∙ ap (take j) p.front ∙ take-take j i old (omega arith);
      written = p.written;
      rows = rw (a, b) (cc (same, r));
      stacked = rw b (stack floor (drop i p.now) p.stacked);
      floor_is = omega (arith, t, none, p.floor_is);
    }

-- a slot that has no row
pub packs_other : {from to : List ℕ} {i floor : ℕ} → Packs from to i floor → (j : ℕ) (e : Entry) → j + 1 ≡ i → e ≡ get_or (image_entries from) j Free →
    ((o l r : ℕ) → e ≡ Row o l r → ⊥) → Packs from to j floor
packs_other p j Free next is none = packs_empty p j next (rw (← is) refl) (rw (← is) (λ floor es s. s)) (rw (← is) refl)
packs_other p j (Held r) next is none = packs_empty p j next (rw (← is) refl) (rw (← is) (λ floor es s. s)) (rw (← is) refl)
packs_other p j (Row o l r) next is none = absurd (none o l r refl)

-- the bytes of the next row fit between the entries and the floor
pub packs_fits : {from to : List ℕ} {i floor o l r : ℕ} → KeepsFormat from → Packs from to i floor → (j : ℕ) → j + 1 ≡ i
    → get_or (image_entries from) j Free ≡ Row o l r →
    8 + 6 * number_at from 2 + l ≤ floor
packs_fits {from = from} {floor = floor} k p j next is =
    let old = image_entries from in
    let f = laid_format k in
    let n = entries_count from in
    let row : PacksRow p.now old _ j _ _ _ =
    record { next = next; within = omega (arith, p.counted, p.within); old_within = omega (arith, n, p.within); front = p.front; is = is } in
    omega (arith, lengths_step row, lengths_tail old j, p.floor_is, lengths_le (number_at from 4) old f.placed, f.room)

-- a row, whose bytes are written below the floor before its entry is
pub packs_row : {from to : List ℕ} {i floor o l r : ℕ} → KeepsFormat from → Packs from to i floor → (b c : List ℕ) (j next : ℕ) → j + 1 ≡ i →
    get_or (image_entries from) j Free ≡ Row o l r → next + l ≡ floor → b ≡ overwritten next (slice_range from o (o + l)) to →
    c ≡ overwritten (8 + 6 * j) (entry_bytes (Row next l r)) b → Packs from c j next
packs_row {from = from} {to = to} {i = i} {floor = floor} {o = o} {l = l} {r = r} k p b c j next step is end wrote entry =
    let old = image_entries from in
    let count = number_at from 2 in
    let bytes = slice_range from o (o + l) in
    let e = Row next l r in
    let n = entries_count from in
    let six = length_entry e in
    let fits = packs_fits k p j step is in
    let row : PacksRow p.now old i j o l r =
    record { next = step; within = omega (arith, p.counted, p.within); old_within = omega (arith, n, p.within); front = p.front; is = is } in
    let placed = all_lower 0 (number_at from 4) old (omega arith) (laid_format k).placed in
    let m : length bytes ≡ l = bytes_step row from k.long placed in
    let total : floor ≤ 4096 = omega (arith, p.floor_is) in
    let low : next + length bytes ≤ length to = omega (arith, p.long) in
    let long : length b ≡ 4096 = ap length wrote ∙ length-overwritten next bytes to low ∙ p.long in
    let front : take (8 + 6 * count) b ≡ take (8 + 6 * count) to =
    ap (take (8 + 6 * count)) wrote ∙ take-overwritten (8 + 6 * count) next bytes to (omega arith) (omega arith) in
    let high : 8 + 6 * j + length (entry_bytes e) ≤ length b = omega (arith, p.within) in
    let after : drop next c ≡ drop next b =
    ap (drop next) entry ∙ drop-overwritten next (8 + 6 * j) (entry_bytes e) b (omega (arith, p.within)) (omega arith) in
    let kept : drop floor c ≡ drop floor to =
    same_drop c b next floor (omega arith) after ∙ ap (drop floor) wrote ∙ drop-overwritten floor next bytes to (omega arith) (omega arith) in
    let range : slice_range c next (next + length bytes) ≡ bytes =
    ap (take ((next + length bytes) - next)) (after ∙ ap (drop next) wrote) ∙ range-overwritten next bytes to (omega arith) in
    let till : next + length bytes ≡ floor = omega arith in
    let w : slice_range c next floor ≡ bytes = ap (λ (x : ℕ). slice_range c next x) (sym till) ∙ range in
    record {
      now = set p.now j e;
      long = ap length entry ∙ length-overwritten (8 + 6 * j) (entry_bytes e) b high ∙ long;
      counted = length-set p.now j e ∙ p.counted;
      within = omega (arith, p.within);
      front = front_less row e;
      written = ap (λ (xs : List ℕ). take (6 * count) (drop 8 xs)) entry
          ∙ entries_set p.now count j e b p.counted (omega (arith, p.within)) (omega arith) (entries_front to b count front ∙ p.written);
      rows = rows_step row from to c floor next p.rows p.stacked end w kept;
      stacked = stacked_step row floor next placed p.stacked end;
      floor_is = omega (arith, lengths_step row, p.floor_is);
    }

-- the page with the head before the packed rows
pub packed_laid : {from to : List ℕ} {i floor : ℕ} → KeepsFormat from → (p : Packs from to i floor) → (b : List ℕ) (count : ℕ) → i ≤ 0 →
    count ≡ length (slots_in from) → b ≡ head_bytes count floor ++ drop 8 to → Laid b p.now (number_at from 2) floor
packed_laid {from = from} {to = to} {i = i} {floor = floor} k p b count end c is =
    let z : i ≡ 0 = omega arith in
    let n : count ≡ number_at from 2 = c ∙ slots_count from in
    laid_packed (laid_format k) to b p.now floor p.long p.counted p.written (rw z at p.stacked) (rw z at p.floor_is) (rw z at p.rows)
    (is ∙ ap (λ (m : ℕ). head_bytes m floor ++ drop 8 to) n)

pub packed_slots : {from to : List ℕ} {i floor : ℕ} → KeepsFormat from → (p : Packs from to i floor) → (b : List ℕ) (count : ℕ) → i ≤ 0 →
    count ≡ length (slots_in from) → b ≡ head_bytes count floor ++ drop 8 to → slots_in b ≡ slots_in from
packed_slots {to = to} {i = i} {floor = floor} k p b count end c is =
    let z : i ≡ 0 = omega arith in
    let f = packed_laid k p b count end c is in
    slots_laid f ∙ slots_packed to b p.now count floor (rw z at p.stacked) (omega (arith, f.above)) is ∙ (rw z at p.rows)

pub packed_floor : {from to : List ℕ} {i floor : ℕ} → KeepsFormat from → (p : Packs from to i floor) → (b : List ℕ) (count : ℕ) → i ≤ 0 →
    count ≡ length (slots_in from) → b ≡ head_bytes count floor ++ drop 8 to → number_at b 4 + sum_by length_of (image_entries from) ≡ 4096
packed_floor {from = from} {i = i} {floor = floor} k p b count end c is =
    let z : i ≡ 0 = omega arith in
    let f = packed_laid k p b count end c is in
    let s : floor + sum_by length_of (image_entries from) ≡ 4096 = rw z at p.floor_is in
    omega (arith, f.head.floor_is, s)

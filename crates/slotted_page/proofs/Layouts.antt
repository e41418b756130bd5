-- A page's bytes by its entries: what a change of head, entries or rows leaves.
use Rattle.std.proofs.Common.{◌≡◌, ℕ, ◌+◌, ◌-◌, ◌*◌, ◌≤◌, ◌<◌, suc, zero, List, [], ◌∷◌, ◌++◌, length, get_or, set, take, drop, refl, sym, ap, ◌∙◌, arith}
use Rattle.std.proofs.Common.{subst}
use Rattle.std.specs.Prelude.{slice_range}
use Rattle.std.specs.List.{All, flat_map, sum_by}
use Rattle.std.proofs.lemmas.List.{length-append, length-drop, length-set, length_push, map-set, map_push, take-append-drop, take-take}
use Rattle.std.proofs.lemmas.List.Elements.{All-head, All-tail, All-set, All-push}
use Rattle.std.proofs.lemmas.List.Sums.{sum_by-cons, sum_by-set, sum_by_push}
use Rattle.std.proofs.lemmas.Slice.{drop-append-drop}
use Rattle.std.proofs.Math.Seq.{set-append_seam}
use Rattle.slotted_page.specs.Slot.{Slot, held, row, reserve_of, total_reserve}
use Rattle.slotted_page.specs.Page.{taken_bytes}
use Rattle.slotted_page.specs.Entry.{slot_of, slots_of, length_of, entry_reserve, IsPlaced}
use Rattle.keybytes.specs.Writes.{overwritten}
use Rattle.slotted_page.specs.Image.{number_at, entry_bytes, head_bytes, image_entries, slots_in, KeepsFormat}
use Rattle.slotted_page.specs.declared.entry.Entry.{Entry}
use Rattle.slotted_page.specs.declared.entry.Entry.TheVariants.{Free, Held, Row}
use Rattle.keybytes.proofs.Writes.{length-overwritten, take-overwritten, drop-overwritten, range-overwritten}
use Rattle.slotted_page.proofs.Packing.{Stacked, same_drop, slots_same, all_lower, stacked_within, placed_from_stacked}
use Rattle.slotted_page.proofs.Overlaps.{AllApart, apart_from_pairs, pairs_from_apart, apart_push, apart_store, apart_from_stacked}
use Rattle.slotted_page.proofs.Images.{IsHead, head_written, head_same, length_entry, read_back, entries_front, entries_set, entries_push, entries_count}
use Rattle.slotted_page.proofs.Images.{slots_count}

pub reserve_same : (image : List ℕ) (e : Entry) → entry_reserve e ≡ reserve_of (slot_of image e)
reserve_same image Free = refl
reserve_same image (Held r) = refl
reserve_same image (Row o l r) = refl

-- the sum of the reserves does not hang on the bytes
pub total_entries : (image : List ℕ) (es : List Entry) → total_reserve (slots_of image es) ≡ sum_by entry_reserve es
total_entries image [] = refl
total_entries image (e ∷ es) =
    let a = sum_by-cons reserve_of (slot_of image e) (slots_of image es) in
    let b = sum_by-cons entry_reserve e es in
    let c = total_entries image es in
    let d = reserve_same image e in
    omega (arith, a, b, c, d)

-- a page with such entries and such a floor
pub record Laid (image : List ℕ) (es : List Entry) (count floor : ℕ) : Type 0 where
  pub long : length image ≡ 4096
  pub head : IsHead image count floor
  pub counted : length es ≡ count
  pub entries : take (6 * count) (drop 8 image) ≡ flat_map entry_bytes es
  pub above : 8 + 6 * count ≤ floor
  pub within : floor ≤ 4096
  pub empty : count ≡ 0 → floor ≡ 4096
  pub placed : All (IsPlaced floor) es
  pub apart : AllApart es
  pub room : taken_bytes count (sum_by entry_reserve es) ≤ 4096

pub laid_format : {image : List ℕ} → KeepsFormat image → Laid image (image_entries image) (number_at image 2) (number_at image 4)
laid_format {image = image} k = record {
  long = k.long;
  head = record { magic = k.magic; zeros = k.zeros; count_is = refl; floor_is = refl };
  counted = entries_count image;
  entries = k.entries;
  above = k.floor;
  within = k.within;
  empty = k.empty;
  placed = k.placed;
  apart = apart_from_pairs (image_entries image) k.apart;
  room = omega (arith, k.room, total_entries image (image_entries image));
}

pub laid_at : {image : List ℕ} → KeepsFormat image → (count floor : ℕ) → count ≡ length (slots_in image) → floor ≡ number_at image 4 →
    Laid image (image_entries image) count floor
laid_at {image = image} k count floor c l =
    let n : number_at image 2 ≡ count = sym (c ∙ slots_count image) in
    let m = sym l in
    subst (λ (x : ℕ). Laid image (image_entries image) count x) m (subst (λ (x : ℕ). Laid image (image_entries image) x (number_at image 4)) n (laid_format k))

pub entries_laid : {image : List ℕ} {es : List Entry} {count floor : ℕ} → Laid image es count floor → image_entries image ≡ es
entries_laid {image = image} {es = es} {count = count} {floor = floor} f =
    let bytes = drop 8 image in
    let e : bytes ≡ flat_map entry_bytes es ++ drop (6 * count) bytes =
    sym (take-append-drop (6 * count) bytes) ∙ ap (λ (xs : List ℕ). xs ++ drop (6 * count) bytes) f.entries in
    let n : number_at image 2 ≡ length es = f.head.count_is ∙ sym f.counted in
    rw (n, e) (read_back floor es (drop (6 * count) bytes) (omega (arith, f.above)) f.placed (omega (arith, f.room)))

pub slots_laid : {image : List ℕ} {es : List Entry} {count floor : ℕ} → Laid image es count floor → slots_in image ≡ slots_of image es
slots_laid {image = image} f = ap (slots_of image) (entries_laid f)

pub format_laid : {image : List ℕ} {es : List Entry} {count floor : ℕ} → Laid image es count floor → KeepsFormat image
format_laid {image = image} {es = es} {count = count} {floor = floor} f =
    let e = entries_laid f in
    let c = f.head.count_is in
    let l = f.head.floor_is in
    record {
      long = f.long;
      magic = f.head.magic;
      zeros = f.head.zeros;
      entries = ap (λ (n : ℕ). take (6 * n) (drop 8 image)) c ∙ f.entries ∙ ap (flat_map entry_bytes) (sym e);
      floor = omega (arith, c, l, f.above);
      within = omega (arith, l, f.within);
      empty = λ z. l ∙ f.empty (sym c ∙ z);
      placed = rw (l, e) f.placed;
      apart = rw e (pairs_from_apart es f.apart);
      room = omega (arith, c, f.room, ap total_reserve (slots_laid f), total_entries image es);
    }

-- other bytes behind the entries
pub laid_front : {a : List ℕ} {es : List Entry} {count floor : ℕ} → Laid a es count floor → (b : List ℕ) → length b ≡ 4096 →
    take (8 + 6 * count) b ≡ take (8 + 6 * count) a → Laid b es count floor
laid_front {a = a} {es = es} {count = count} {floor = floor} f b long same =
    let t : take 8 b ≡ take 8 a = sym (take-take 8 (8 + 6 * count) b (omega arith)) ∙ ap (take 8) same ∙ take-take 8 (8 + 6 * count) a (omega arith) in
    record {
      long = long;
      head = head_same b t f.head;
      counted = f.counted;
      entries = entries_front a b count same ∙ f.entries;
      above = f.above;
      within = f.within;
      empty = f.empty;
      placed = f.placed;
      apart = f.apart;
      room = f.room;
    }

-- a head written before entries that stand already
pub laid_head : (image b : List ℕ) (es : List Entry) (count floor : ℕ) → length image ≡ 4096 → b ≡ head_bytes count floor ++ drop 8 image →
    length es ≡ count → take (6 * count) (drop 8 image) ≡ flat_map entry_bytes es → 8 + 6 * count ≤ floor → floor ≤ 4096 →
    (count ≡ 0 → floor ≡ 4096) → All (IsPlaced floor) es → AllApart es → taken_bytes count (sum_by entry_reserve es) ≤ 4096 →
    Laid b es count floor
laid_head image b es count floor long is counted entries above within empty placed apart room =
    let n = length-drop 8 image in
    let behind : drop 8 b ≡ drop 8 image = ap (drop 8) is in
    record {
      long = omega (arith, ap length is, length-append (head_bytes count floor) (drop 8 image), n, long);
      head = subst (λ (xs : List ℕ). IsHead xs count floor) (sym is) (head_written count floor (drop 8 image) (omega arith) (omega arith));
      counted = counted;
      entries = ap (take (6 * count)) behind ∙ entries;
      above = above;
      within = within;
      empty = empty;
      placed = placed;
      apart = apart;
      room = room;
    }

-- a lower floor
pub laid_floor : {image : List ℕ} {es : List Entry} {count floor : ℕ} → Laid image es count floor → (b : List ℕ) (low : ℕ) →
    b ≡ head_bytes count low ++ drop 8 image → 8 + 6 * count ≤ low → low ≤ floor → 0 < count → Laid b es count low
laid_floor {image = image} {es = es} {count = count} {floor = floor} f b low is above le some =
    laid_head image b es count low f.long is f.counted f.entries above (omega (arith, f.within)) (λ z. absurd (omega arith))
    (all_lower low floor es le f.placed) f.apart f.room

-- another entry at s
pub laid_set : {image : List ℕ} {es : List Entry} {count floor : ℕ} → Laid image es count floor → (b : List ℕ) (s : ℕ) (e : Entry) →
    s < count → b ≡ overwritten (8 + 6 * s) (entry_bytes e) image → IsPlaced floor e → AllApart (set es s e) →
    taken_bytes count (sum_by entry_reserve es) + entry_reserve e ≤ 4096 + entry_reserve (get_or es s Free) →
    Laid b (set es s e) count floor
laid_set {image = image} {es = es} {count = count} {floor = floor} f b s e lt is placed apart room =
    let six = length_entry e in
    let long : length b ≡ 4096 = ap length is ∙ length-overwritten (8 + 6 * s) (entry_bytes e) image (omega (arith, six, f.long, f.above, f.within)) ∙ f.long in
    let t : take 8 b ≡ take 8 image =
    ap (take 8) is ∙ take-overwritten 8 (8 + 6 * s) (entry_bytes e) image (omega arith) (omega (arith, f.long, f.above, f.within)) in
    record {
      long = long;
      head = head_same b t f.head;
      counted = length-set es s e ∙ f.counted;
      entries = ap (λ (xs : List ℕ). take (6 * count) (drop 8 xs)) is
          ∙ entries_set es count s e image f.counted lt (omega (arith, f.long, f.above, f.within)) f.entries;
      above = f.above;
      within = f.within;
      empty = f.empty;
      placed = All-set (IsPlaced floor) es s e placed f.placed;
      apart = apart;
      room = omega (arith, sum_by-set entry_reserve es s e Free (omega (arith, lt, f.counted)), room);
    }

-- what an entry's write leaves of the rows
pub rows_kept : {image : List ℕ} {es : List Entry} {count floor : ℕ} → Laid image es count floor → (b : List ℕ) (s : ℕ) (e : Entry) →
    s < count → b ≡ overwritten (8 + 6 * s) (entry_bytes e) image → drop floor b ≡ drop floor image
rows_kept {image = image} {count = count} {floor = floor} f b s e lt is =
    ap (drop floor) is ∙ drop-overwritten floor (8 + 6 * s) (entry_bytes e) image (omega (arith, length_entry e, f.above))
    (omega (arith, f.long, f.above, f.within))

-- the slots with another entry at s
pub slots_set : {image : List ℕ} {es : List Entry} {count floor : ℕ} → Laid image es count floor → (b : List ℕ) (s : ℕ) (e : Entry) →
    s < count → b ≡ overwritten (8 + 6 * s) (entry_bytes e) image → IsPlaced floor e →
    slots_of b (set es s e) ≡ set (slots_of image es) s (slot_of image e)
slots_set {image = image} {es = es} {floor = floor} f b s e lt is placed =
    slots_same b image floor (set es s e) (rows_kept f b s e lt is) (All-set (IsPlaced floor) es s e placed f.placed) ∙ map-set (slot_of image) es s e

-- a row's bytes, an entry of it behind the others, and the head, written one after the other
pub record Adds (image b c d : List ℕ) (count low : ℕ) (bytes : List ℕ) : Type 0 where
  pub wrote : b ≡ overwritten low bytes image
  pub entry : c ≡ overwritten (8 + 6 * count) (entry_bytes (Row low (length bytes) (length bytes))) b
  pub head : d ≡ head_bytes (count + 1) low ++ drop 8 c
  pub some : 0 < length bytes
  pub size : length bytes ≤ 1224
  pub above : 8 + 6 * (count + 1) ≤ low

-- the page with the row's bytes alone
with_row : {image b c d : List ℕ} {es : List Entry} {count floor low : ℕ} {bytes : List ℕ} → Laid image es count floor → Adds image b c d count low bytes
    → low + length bytes ≡ floor → Laid b es count floor
with_row {image = image} {b = b} {count = count} {low = low} {bytes = bytes} f k end =
    let inside : low + length bytes ≤ length image = omega (arith, f.long, f.within, end) in
    laid_front f b (ap length k.wrote ∙ length-overwritten low bytes image inside ∙ f.long)
    (ap (take (8 + 6 * count)) k.wrote ∙ take-overwritten (8 + 6 * count) low bytes image (omega (arith, k.above)) (omega (arith, inside)))

pub laid_add : {image b c d : List ℕ} {es : List Entry} {count floor low : ℕ} {bytes : List ℕ} → Laid image es count floor → Adds image b c d count low bytes
    → low + length bytes ≡ floor → taken_bytes (count + 1) (sum_by entry_reserve es + length bytes) ≤ 4096
    → Laid d (es ++ Row low (length bytes) (length bytes) ∷ []) (count + 1) low
laid_add {b = b} {c = c} {d = d} {es = es} {count = count} {floor = floor} {low = low} {bytes = bytes} f k end room =
    let e = Row low (length bytes) (length bytes) in
    let g = with_row f k end in
    let inside : 8 + 6 * count + length (entry_bytes e) ≤ length b = omega (arith, length_entry e, g.long, f.within, end, k.above) in
    let long : length c ≡ 4096 = ap length k.entry ∙ length-overwritten (8 + 6 * count) (entry_bytes e) b inside ∙ g.long in
    let entries : take (6 * (count + 1)) (drop 8 c) ≡ flat_map entry_bytes (es ++ e ∷ []) =
    ap (λ (xs : List ℕ). take (6 * (count + 1)) (drop 8 xs)) k.entry ∙ entries_push es count e b f.counted (omega (arith, g.long, f.above, f.within)) g.entries in
    let apart : AllApart (es ++ e ∷ []) =
    subst AllApart (set-append_seam es Free [] e) (apart_store floor (es ++ Free ∷ []) (length es) low (length bytes) (length bytes) (omega (arith, end))
    (All-push (IsPlaced floor) es Free f.placed tt) (apart_push es f.apart)) in
    laid_head c d (es ++ e ∷ []) (count + 1) low long k.head (length_push es e ∙ ap (λ (n : ℕ). n + 1) f.counted) entries k.above
    (omega (arith, f.within, end)) (λ z. absurd (omega arith))
    (All-push (IsPlaced low) es e (all_lower low floor es (omega (arith, end)) f.placed)
    (omega arith, omega (arith, f.within, end), k.some, k.size, omega arith))
    apart (omega (arith, room, sum_by_push entry_reserve es e))

pub slots_add : {image b c d : List ℕ} {es : List Entry} {count floor low : ℕ} {bytes : List ℕ} → Laid image es count floor → Adds image b c d count low bytes
    → low + length bytes ≡ floor → slots_of d (es ++ Row low (length bytes) (length bytes) ∷ []) ≡ slots_of image es ++ row bytes (length bytes) ∷ []
slots_add {image = image} {b = b} {c = c} {d = d} {es = es} {count = count} {floor = floor} {low = low} {bytes = bytes} f k end =
    let e = Row low (length bytes) (length bytes) in
    let inside : low + length bytes ≤ length image = omega (arith, f.long, f.within, end) in
    let long = (with_row f k end).long in
    let after : drop low d ≡ drop low b =
    ap (drop low) k.head ∙ drop-append-drop 8 c (head_bytes (count + 1) low) low (omega (arith, k.above)) refl ∙ ap (drop low) k.entry
    ∙ drop-overwritten low (8 + 6 * count) (entry_bytes e) b (omega (arith, length_entry e, k.above)) (omega (arith, length_entry e, long, f.within, end, k.above)) in
    let rest : drop floor d ≡ drop floor image =
    same_drop d b low floor (omega (arith, end)) after ∙ ap (drop floor) k.wrote ∙ drop-overwritten floor low bytes image (omega (arith, end)) (omega (arith, inside)) in
    let range : slice_range d low (low + length bytes) ≡ bytes =
    ap (take ((low + length bytes) - low)) (after ∙ ap (drop low) k.wrote) ∙ range-overwritten low bytes image (omega (arith, inside)) in
    map_push (slot_of d) es e ∙ ap (λ (xs : List Slot). xs ++ slot_of d e ∷ []) (slots_same d image floor es rest f.placed)
    ∙ ap (λ (ys : List ℕ). slots_of image es ++ row ys (length bytes) ∷ []) range

pub held_entry : (image : List ℕ) (e : Entry) (r : ℕ) → slot_of image e ≡ held r → e ≡ Held r
held_entry image Free r h = cc
held_entry image (Held s) r h = cc
held_entry image (Row o l s) r h = cc

-- a row's bytes, a lower floor and the row's entry, written one after the other
pub record Stores (image b c d : List ℕ) (count s low r : ℕ) (bytes : List ℕ) : Type 0 where
  pub wrote : b ≡ overwritten low bytes image
  pub head : c ≡ head_bytes count low ++ drop 8 b
  pub entry : d ≡ overwritten (8 + 6 * s) (entry_bytes (Row low (length bytes) r)) c
  pub some : 0 < length bytes
  pub size : length bytes ≤ 1224
  pub reserved : length bytes ≤ r
  pub above : 8 + 6 * count ≤ low
  pub there : s < count

-- the page with the row's bytes and the lower floor
lowered : {image b c d : List ℕ} {es : List Entry} {count floor s low r : ℕ} {bytes : List ℕ} → Laid image es count floor
    → Stores image b c d count s low r bytes →
    low + length bytes ≡ floor → Laid c es count low
lowered {image = image} {b = b} {c = c} {count = count} {low = low} {bytes = bytes} f k end =
    let long : length b ≡ 4096 = ap length k.wrote ∙ length-overwritten low bytes image (omega (arith, f.long, f.within, end)) ∙ f.long in
    let front : take (8 + 6 * count) b ≡ take (8 + 6 * count) image =
    ap (take (8 + 6 * count)) k.wrote ∙ take-overwritten (8 + 6 * count) low bytes image k.above (omega (arith, f.long, f.within, end)) in
    laid_floor (laid_front f b long front) c low k.head k.above (omega arith) (omega (arith, k.there))

pub laid_store : {image b c d : List ℕ} {es : List Entry} {count floor s low r : ℕ} {bytes : List ℕ} → Laid image es count floor
    → Stores image b c d count s low r bytes →
    low + length bytes ≡ floor → slot_of image (get_or es s Free) ≡ held r → Laid d (set es s (Row low (length bytes) r)) count low
laid_store {image = image} {d = d} {es = es} {count = count} {floor = floor} {s = s} {low = low} {r = r} {bytes = bytes} f k end was =
    let e = held_entry image (get_or es s Free) r was in
    laid_set (lowered f k end) d s (Row low (length bytes) r) k.there k.entry (omega arith, omega (arith, f.within, end), k.some, k.size, k.reserved)
    (apart_store floor es s low (length bytes) r (omega (arith, end)) f.placed f.apart) (omega (arith, f.room, ap entry_reserve e))

pub slots_store : {image b c d : List ℕ} {es : List Entry} {count floor s low r : ℕ} {bytes : List ℕ} → Laid image es count floor
    → Stores image b c d count s low r bytes →
    low + length bytes ≡ floor → slots_of d (set es s (Row low (length bytes) r)) ≡ set (slots_of image es) s (row bytes r)
slots_store {image = image} {b = b} {c = c} {d = d} {es = es} {count = count} {floor = floor} {s = s} {low = low} {r = r} {bytes = bytes} f k end =
    let e = Row low (length bytes) r in
    let after : drop low c ≡ drop low b = ap (drop low) k.head ∙ drop-append-drop 8 b (head_bytes count low) low (omega (arith, k.above)) refl in
    let rest : drop floor c ≡ drop floor image =
    same_drop c b low floor (omega arith) after ∙ ap (drop floor) k.wrote
    ∙ drop-overwritten floor low bytes image (omega (arith, end)) (omega (arith, f.long, f.within, end)) in
    let range : slice_range c low (low + length bytes) ≡ bytes =
    ap (take ((low + length bytes) - low)) (after ∙ ap (drop low) k.wrote) ∙ range-overwritten low bytes image (omega (arith, f.long, f.within, end)) in
    let x : slot_of c e ≡ row bytes r = ap (λ (ys : List ℕ). row ys r) range in
    slots_set (lowered f k end) d s e k.there k.entry (omega arith, omega (arith, f.within, end), k.some, k.size, k.reserved)
    ∙ ap (set (slots_of c es) s) x ∙ ap (λ (ys : List Slot). set ys s (row bytes r)) (slots_same c image floor es rest f.placed)

length_le_reserve : (floor : ℕ) (e : Entry) → IsPlaced floor e → length_of e ≤ entry_reserve e
length_le_reserve floor Free p = omega arith
length_le_reserve floor (Held r) p = omega arith
length_le_reserve floor (Row o l r) p = p.4

-- rows take no more than all reserves
pub lengths_le : (floor : ℕ) (es : List Entry) → All (IsPlaced floor) es → sum_by length_of es ≤ sum_by entry_reserve es
lengths_le floor [] p = omega arith
lengths_le floor (e ∷ es) p =
    let h = length_le_reserve floor e (All-head (IsPlaced floor) e es p) in
    let t = lengths_le floor es (All-tail (IsPlaced floor) e es p) in
    let a = sum_by-cons length_of e es in
    let b = sum_by-cons entry_reserve e es in
    omega (arith, h, t, a, b)

-- a held slot's reserve is room that no row takes
pub lengths_held : (floor : ℕ) (es : List Entry) (s r : ℕ) → All (IsPlaced floor) es → s < length es →
    get_or es s Free ≡ Held r → sum_by length_of es + r ≤ sum_by entry_reserve es
lengths_held floor [] s r p lt h = absurd (omega arith)
lengths_held floor (e ∷ es) zero r p lt h =
    let t = lengths_le floor es (All-tail (IsPlaced floor) e es p) in
    let a = sum_by-cons length_of e es in
    let b = sum_by-cons entry_reserve e es in
    let z = ap length_of h in
    let w = ap entry_reserve h in
    omega (arith, t, a, b, z, w)
lengths_held floor (e ∷ es) (suc s) r p lt h =
    let g = length_le_reserve floor e (All-head (IsPlaced floor) e es p) in
    let t = lengths_held floor es s r (All-tail (IsPlaced floor) e es p) (omega arith) h in
    let a = sum_by-cons length_of e es in
    let b = sum_by-cons entry_reserve e es in
    omega (arith, g, t, a, b)

stacked_empty : (floor : ℕ) (es : List Entry) → length es ≡ 0 → Stacked floor es → floor ≡ 4096
stacked_empty floor [] n s = s
stacked_empty floor (e ∷ es) n s = absurd (omega arith)

-- a page whose rows were laid end to end
pub laid_packed : {image : List ℕ} {es : List Entry} {count floor : ℕ} → Laid image es count floor → (packed b : List ℕ) (now : List Entry) (low : ℕ) →
    length packed ≡ 4096 → length now ≡ count → take (6 * count) (drop 8 packed) ≡ flat_map entry_bytes now → Stacked low now →
    low + sum_by length_of es ≡ 4096 → slots_of packed now ≡ slots_of image es → b ≡ head_bytes count low ++ drop 8 packed → Laid b now count low
laid_packed {image = image} {es = es} {count = count} {floor = floor} f packed b now low long counted entries stacked sum rows is =
    let m = lengths_le floor es f.placed in
    let t : sum_by entry_reserve now ≡ sum_by entry_reserve es = sym (total_entries packed now) ∙ ap total_reserve rows ∙ total_entries image es in
    laid_head packed b now count low long is counted entries (omega (arith, m, sum, f.room)) (stacked_within low now stacked)
    (λ z. stacked_empty low now (counted ∙ z) stacked) (placed_from_stacked low now stacked) (apart_from_stacked low now stacked) (omega (arith, t, f.room))

pub slots_packed : (packed b : List ℕ) (now : List Entry) (count low : ℕ) → Stacked low now → 8 ≤ low →
    b ≡ head_bytes count low ++ drop 8 packed → slots_of b now ≡ slots_of packed now
slots_packed packed b now count low stacked above is =
    slots_same b packed low now (ap (drop low) is ∙ drop-append-drop 8 packed (head_bytes count low) low above refl) (placed_from_stacked low now stacked)

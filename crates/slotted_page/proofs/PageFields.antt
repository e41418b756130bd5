-- The fields of a page, and an entry set among them.
use Rattle.std.proofs.Common.{◌≡◌, ℕ, ◌+◌, ◌-◌, ◌*◌, ◌≤◌, ◌<◌, List, [], ◌∷◌, length, get_or, set, take, drop, sym, ap, ◌∙◌, arith, subst, false}
use Rattle.std.specs.Prelude.{slice_range}
use Rattle.std.specs.List.{All, sum_by}
use Rattle.std.proofs.lemmas.List.Elements.{All-head, All-tail, All-nil, All-cons}
use Rattle.std.proofs.lemmas.List.Sums.{sum_by-set, get_or-le-sum_by}
use Rattle.std.proofs.lemmas.List.Edits.{length-between}
use Rattle.slotted_page.specs.Slot.{IsSoundSlot, Slot, free, row, reserve_of, total_reserve, is_free, lowest_free, put}
use Rattle.slotted_page.specs.Page.{PageValue, slot_at, reserve_at, CanReserve, IsSoundPage}
use Rattle.slotted_page.specs.Entry.{slot_of, slots_of, entry_reserve, IsPlaced}
use Rattle.keybytes.specs.Writes.{overwritten}
use Rattle.slotted_page.specs.Image.{number_at, entry_bytes, image_entries, slots_in}
use Rattle.slotted_page.specs.Fields.{IsPage}
use Rattle.slotted_page.specs.declared.entry.Entry.{Entry}
use Rattle.slotted_page.specs.declared.entry.Entry.TheVariants.{Free, Held, Row}
use Rattle.keybytes.proofs.Writes.{length-overwritten, take-overwritten, drop-overwritten, range-overwritten}
use Rattle.slotted_page.proofs.Overlaps.{Within, apart_set, SameBut, over_same}
use Rattle.slotted_page.proofs.Packing.{placed_at}
use Rattle.slotted_page.proofs.Images.{slots_count, entries_count, slot_of_image}
use Rattle.slotted_page.proofs.Layouts.{Laid, laid_format, laid_front, format_laid, slots_laid, laid_set, slots_set, total_entries, reserve_same}
use Rattle.slotted_page.proofs.PageValues.{put_is_set}
use Rattle.slotted_page.proofs.Rooms.{lowest_same}

-- what the fields say of the page that they stand for
pub record PageFacts (page : PageValue) (image : List ℕ) (limit reserved first : ℕ) : Type 0 where
  pub keeps : IsPage image limit reserved first
  pub laid : Laid image (image_entries image) (number_at image 2) (number_at image 4)
  pub slots_are : slots_in image ≡ page.slots
  pub limit_is : limit ≡ page.limit
  pub slots_long : length (slots_in image) ≡ length page.slots
  pub count_is : number_at image 2 ≡ length page.slots
  pub entries_long : length (image_entries image) ≡ length page.slots
  pub total_is : total_reserve page.slots ≡ reserved
  pub reserved_is : sum_by entry_reserve (image_entries image) ≡ reserved
  pub first_is : lowest_free page.slots ≡ first

pub page_facts : {page : PageValue} {image : List ℕ} {limit reserved first : ℕ} → IsPage image limit reserved first →
    record { slots = slots_in image; limit = limit } ≡ page → PageFacts page image limit reserved first
page_facts {image = image} k v =
    let w = ap (λ (p : PageValue). p.slots) v in
    record {
      keeps = k;
      laid = laid_format k.format;
      slots_are = w;
      limit_is = ap (λ (p : PageValue). p.limit) v;
      slots_long = ap length w;
      count_is = sym (slots_count image) ∙ ap length w;
      entries_long = entries_count image ∙ sym (slots_count image) ∙ ap length w;
      total_is = ap total_reserve (sym w) ∙ k.total;
      reserved_is = sym (total_entries image (image_entries image)) ∙ k.total;
      first_is = ap lowest_free (sym w) ∙ k.lowest;
    }

-- the fields of a page that is laid so
pub page_laid : {image : List ℕ} {es : List Entry} {count floor : ℕ} → Laid image es count floor → (limit reserved first : ℕ) → count ≤ limit → limit ≤ 255 →
    sum_by entry_reserve es ≡ reserved → lowest_free (slots_in image) ≡ first → IsPage image limit reserved first
page_laid {image = image} {es = es} f limit reserved first counted limited total lowest = record {
  format = format_laid f;
  counted = omega (arith, slots_count image, f.head.count_is, counted);
  limited = limited;
  total = ap total_reserve (slots_laid f) ∙ total_entries image es ∙ total;
  lowest = lowest;
}

-- the slot that an entry stands for
pub slot_is : {page : PageValue} {image : List ℕ} {limit reserved first : ℕ} → PageFacts page image limit reserved first →
    (s : ℕ) → s < length page.slots → slot_at page s ≡ slot_of image (get_or (image_entries image) s Free)
slot_is {image = image} f s lt = ap (λ (slots : List Slot). get_or slots s free) (sym f.slots_are) ∙ slot_of_image image s (omega (arith, lt, f.slots_long))

-- the reserve that an entry has
pub reserve_is : {page : PageValue} {image : List ℕ} {limit reserved first : ℕ} → PageFacts page image limit reserved first →
    (s : ℕ) → s < length page.slots → entry_reserve (get_or (image_entries image) s Free) ≡ reserve_at page s
reserve_is {image = image} f s lt = reserve_same image (get_or (image_entries image) s Free) ∙ ap reserve_of (sym (slot_is f s lt))

-- the lowest free slot with another slot at s, which is free if the old one was
pub same_lowest : {page : PageValue} {image : List ℕ} {limit reserved first : ℕ} → PageFacts page image limit reserved first →
    (c : List ℕ) (s : ℕ) (x : Slot) → s < length page.slots → slots_in c ≡ put page.slots s x → is_free x ≡ is_free (slot_at page s) →
    lowest_free (slots_in c) ≡ first
same_lowest {page = page} f c s x lt is same = ap lowest_free is ∙ lowest_same page.slots s x lt same ∙ f.first_is

-- a slot with a row is not free
pub row_taken : {page : PageValue} {image : List ℕ} {limit reserved first : ℕ} → PageFacts page image limit reserved first →
    (s o l r : ℕ) → s < length page.slots → get_or (image_entries image) s Free ≡ Row o l r → is_free (slot_at page s) ≡ false
row_taken {image = image} f s o l r lt e = ap is_free (slot_is f s lt ∙ ap (slot_of image) e)

-- the place of an entry's row
pub placed_here : {page : PageValue} {image : List ℕ} {limit reserved first : ℕ} → PageFacts page image limit reserved first →
    (s o l r : ℕ) → s < length page.slots → get_or (image_entries image) s Free ≡ Row o l r → IsPlaced (number_at image 4) (Row o l r)
placed_here {image = image} f s o l r lt e = placed_at (number_at image 4) (image_entries image) s o l r (omega (arith, lt, f.entries_long)) e f.laid.placed

-- the fields with another entry at s, which takes no byte that s did not have: b is the page but for the row's bytes
pub set_laid : {page : PageValue} {image b : List ℕ} {limit reserved first : ℕ} → PageFacts page image limit reserved first →
    Laid b (image_entries image) (number_at image 2) (number_at image 4) → (c : List ℕ) (s : ℕ) (e : Entry) → s < length page.slots →
    c ≡ overwritten (8 + 6 * s) (entry_bytes e) b → IsPlaced (number_at image 4) e → Within e (get_or (image_entries image) s Free) →
    CanReserve page s (entry_reserve e) → Laid c (set (image_entries image) s e) (number_at image 2) (number_at image 4)
set_laid {image = image} f laid c s e lt is placed inside room =
    laid_set laid c s e (omega (arith, lt, f.count_is)) is placed (apart_set (image_entries image) s e inside f.laid.apart)
    (omega (arith, room, reserve_is f s lt, f.reserved_is, f.total_is, f.count_is))

pub set_page : {page : PageValue} {image b : List ℕ} {limit reserved first : ℕ} → PageFacts page image limit reserved first →
    Laid b (image_entries image) (number_at image 2) (number_at image 4) → (c : List ℕ) (s was : ℕ) (e : Entry) → s < length page.slots →
    c ≡ overwritten (8 + 6 * s) (entry_bytes e) b → IsPlaced (number_at image 4) e → Within e (get_or (image_entries image) s Free) →
    was ≡ entry_reserve (get_or (image_entries image) s Free) → CanReserve page s (entry_reserve e) → (first_now : ℕ) →
    lowest_free (slots_in c) ≡ first_now → IsPage c limit (reserved - was + entry_reserve e) first_now
set_page {image = image} {limit = limit} {reserved = reserved} f laid c s was e lt is placed inside w room first_now lowest =
    let es = image_entries image in
    let t = sum_by-set entry_reserve es s e Free (omega (arith, lt, f.entries_long)) in
    let m = get_or-le-sum_by entry_reserve es s Free (omega (arith, lt, f.entries_long)) in
    page_laid (set_laid f laid c s e lt is placed inside room) limit (reserved - was + entry_reserve e) first_now
    (omega (arith, f.keeps.counted, f.slots_long, f.count_is)) f.keeps.limited (omega (arith, t, m, w, f.reserved_is)) lowest

-- the slots with another entry at s
pub set_slots : {page : PageValue} {image : List ℕ} {limit reserved first : ℕ} → PageFacts page image limit reserved first →
    (c : List ℕ) (s : ℕ) (e : Entry) → s < length page.slots → c ≡ overwritten (8 + 6 * s) (entry_bytes e) image → IsPlaced (number_at image 4) e →
    Within e (get_or (image_entries image) s Free) → CanReserve page s (entry_reserve e) → slots_in c ≡ put page.slots s (slot_of image e)
set_slots {page = page} {image = image} f c s e lt is placed inside room =
    slots_laid (set_laid f f.laid c s e lt is placed inside room) ∙ slots_set f.laid c s e (omega (arith, lt, f.count_is)) is placed
    ∙ ap (λ (slots : List Slot). set slots s (slot_of image e)) f.slots_are ∙ sym (put_is_set page.slots s (slot_of image e) lt)

-- the page with a row's bytes written over its own
pub over_laid : {page : PageValue} {image : List ℕ} {limit reserved first : ℕ} → PageFacts page image limit reserved first → (b : List ℕ) (o : ℕ) (bytes : List ℕ) →
    number_at image 4 ≤ o → o + length bytes ≤ 4096 → b ≡ overwritten o bytes image →
    Laid b (image_entries image) (number_at image 2) (number_at image 4)
over_laid {image = image} f b o bytes low high is =
    laid_front f.laid b (ap length is ∙ length-overwritten o bytes image (omega (arith, f.laid.long)) ∙ f.laid.long)
    (ap (take (8 + 6 * number_at image 2)) is
    ∙ take-overwritten (8 + 6 * number_at image 2) o bytes image (omega (arith, f.laid.above)) (omega (arith, f.laid.long)))

-- the slots after a row's bytes and its entry are written over those at s
pub over_slots : {page : PageValue} {image : List ℕ} {limit reserved first : ℕ} → PageFacts page image limit reserved first
    → (b c : List ℕ) (s o l was r : ℕ) (bytes : List ℕ) →
    s < length page.slots → get_or (image_entries image) s Free ≡ Row o l was → length bytes ≤ l → b ≡ overwritten o bytes image →
    c ≡ overwritten (8 + 6 * s) (entry_bytes (Row o (length bytes) r)) b → IsPlaced (number_at image 4) (Row o (length bytes) r) →
    Within (Row o (length bytes) r) (get_or (image_entries image) s Free) → CanReserve page s r → slots_in c ≡ put page.slots s (row bytes r)
over_slots {page = page} {image = image} f b c s o l was r bytes lt e le wrote is placed inside room =
    let es = image_entries image in
    let n = length bytes in
    let laid = over_laid f b o bytes placed.0 placed.1 wrote in
    let in_page : o ≤ length image = omega (arith, placed.1, f.laid.long) in
    let same : SameBut image b o n = record {
      before = ap (take o) wrote ∙ take-overwritten o o bytes image (omega arith) in_page;
      after = ap (drop (o + n)) wrote ∙ drop-overwritten (o + n) o bytes image (omega arith) in_page;
    } in
    let range = ap (λ (xs : List ℕ). slice_range xs o (o + n)) wrote ∙ range-overwritten o bytes image in_page in
    let x : slot_of b (Row o n r) ≡ row bytes r = ap (λ (ys : List ℕ). row ys r) range in
    slots_laid (set_laid f laid c s (Row o n r) lt is placed inside room) ∙ slots_set laid c s (Row o n r) (omega (arith, lt, f.count_is)) is placed
    ∙ ap (set (slots_of b es) s) x ∙ over_same image b o l was n es s (row bytes r) le same (omega (arith, lt, f.entries_long)) e f.laid.apart
    ∙ ap (λ (slots : List Slot). set slots s (row bytes r)) f.slots_are ∙ sym (put_is_set page.slots s (row bytes r) lt)

-- the length of a row's bytes
pub row_length : (image : List ℕ) (floor o l r : ℕ) → length image ≡ 4096 → IsPlaced floor (Row o l r) →
    length (slice_range image o (o + l)) ≡ l
row_length image floor o l r long p =
    let le : o + l ≤ length image = omega (arith, p.1, long) in
    omega (arith, length-between image o (o + l) le)

sound_slot : (image : List ℕ) (floor : ℕ) (e : Entry) → length image ≡ 4096 → IsPlaced floor e → IsSoundSlot (slot_of image e)
sound_slot image floor Free long p = tt
sound_slot image floor (Held r) long p = tt
sound_slot image floor (Row o l r) long p =
    let n = row_length image floor o l r long p in
    let some = p.2 in let size = p.3 in let reserved = p.4 in
    ((omega arith, omega arith), omega arith)

sound_slots : (image : List ℕ) (floor : ℕ) (es : List Entry) → length image ≡ 4096 → All (IsPlaced floor) es →
    All IsSoundSlot (slots_of image es)
sound_slots image floor [] long p = All-nil IsSoundSlot
sound_slots image floor (e ∷ es) long p =
    All-cons IsSoundSlot (slot_of image e) (slots_of image es) (sound_slot image floor e long (All-head (IsPlaced floor) e es p))
    (sound_slots image floor es long (All-tail (IsPlaced floor) e es p))

-- the page that the fields stand for is sound
pub sound_page : {page : PageValue} {image : List ℕ} {limit reserved first : ℕ} → PageFacts page image limit reserved first → IsSoundPage page
sound_page {page = page} {image = image} f = record {
  counted = omega (arith, f.slots_long, f.limit_is, f.keeps.counted);
  limited = omega (arith, f.limit_is, f.keeps.limited);
  rows = subst (All IsSoundSlot) f.slots_are (sound_slots image (number_at image 4) (image_entries image) f.laid.long f.laid.placed);
  room = omega (arith, f.count_is, f.total_is, f.reserved_is, f.laid.room);
}

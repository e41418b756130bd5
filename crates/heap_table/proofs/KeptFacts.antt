-- What follows from what a table keeps.
use Rattle.std.proofs.Common.{◌≡◌, inl, inr, ℕ, zero, suc, add-zero, ◌+◌, ◌<◌, ◌≤◌, Bool, true, false, List, [], ◌∷◌, ◌++◌, length, get_or, Option, Some, None}
use Rattle.std.proofs.Common.{IfSome, refl, sym, ap, ◌∙◌, subst, arith}
use Rattle.std.specs.Prelude.{nat_lt, if◌then◌else◌, position, is_some}
use Rattle.std.specs.Option.{option_map, option_to_list}
use Rattle.std.specs.List.{range_with_len, filter_map, cons_option}
use Rattle.std.proofs.lemmas.List.Elements.{filter_map-append}
use Rattle.std.proofs.lemmas.Bool.{cases_lt}
use Rattle.std.proofs.lemmas.Bool.Decides.{nat_tests}
use Rattle.std.proofs.lemmas.Option.{same_Some, cond_some}
use Rattle.std.proofs.lemmas.List.{get_or_past}
use Rattle.std.proofs.lemmas.List.Quantifiers.{position-Some}
use Rattle.keybytes.specs.Cells.{fits}
use Rattle.keybytes.specs.Rows.{IsRow, row_bytes, Spells, shape_refusal}
use Rattle.keybytes.specs.declared.cell.Cell.{Cell}
use Rattle.keybytes.specs.declared.kind.Kind.{Kind}
use Rattle.keybytes.specs.declared.rid.Rid.{Rid}
use Rattle.keybytes.specs.declared.fault.Fault.TheVariants.{RowShape}
use Rattle.heap_log.specs.declared.record.LogRec.{LogRec}
use Rattle.heap_log.specs.Standing.{live_at, row_at, newest_at}
use Rattle.slotted_page.specs.Slot.{Slot, free, held as held_slot, row as row_slot, is_free, bytes_of, IsRowSize}
use Rattle.slotted_page.specs.Page.{PageValue, slot_at, room_for, slot_for}
use Rattle.heap_table.specs.Limits.{pages_most}
use Rattle.heap_table.specs.HeapState.{HeapState, page_of, table_pages, takes, place_on, insert_place}
use Rattle.heap_table.specs.Holders.{holder, room_needed}
use Rattle.heap_table.specs.Images.{Shows, ImageValue, IsImage}
use Rattle.heap_table.specs.Kept.{IsKept, RowsFit, WritesFit, IsKeptWithRoom}
use Rattle.heap_table.specs.PageLists.{PagesValue, new_page, page_or_new, page_by, slot_in}
use Rattle.heap_table.specs.Pages.{rid_at, row_in, slots_written, pages_written, slot_with, slot_of, page_slots}
use Rattle.heap_table.specs.HeapValue.{HeapValue}
use Rattle.heap_table.proofs.LogRows.{slots_past, slot_past}
use Rattle.heap_table.proofs.PageLists.{length_page_by, length_pages_by, get_or_page_by, get_or_pages_by, page_or_new_pages_by, slot_in_pages, slot_in_past}

-- what a table keeps, told of its value
pub kept_now : {places ended : ℕ} (h g : HeapValue) (p : PagesValue) → h ≡ g → IsKeptWithRoom h p places ended → IsKept g.state p
kept_now h g p is kept = subst (λ (x : HeapValue). IsKept x.state p) is kept.kept

pub kept_count : (s : HeapState) (p : PagesValue) → IsKept s p → length p.pages ≡ pages_written s.log
kept_count s p kept = ap length kept.pages_are ∙ length_pages_by (slot_of s.log) (slots_written s.log) (pages_written s.log) s.slot_limit

pub kept_limit : (s : HeapState) (p : PagesValue) → IsKept s p → pages_written s.log ≤ pages_most
kept_limit s p kept = grind (arith, nat_tests, kept.limits, kept.within)

kept_slots : (s : HeapState) (p : PagesValue) → IsKept s p → 0 < s.slot_limit
kept_slots s p kept = grind (arith, nat_tests, kept.limits)

pub kept_page : (s : HeapState) (p : PagesValue) (page : ℕ) (d : PageValue) → IsKept s p → page < length p.pages → get_or p.pages page d ≡ page_of s page
kept_page s p page d kept below =
    ap (λ (ps : List PageValue). get_or ps page d) kept.pages_are
    ∙ get_or_pages_by (slot_of s.log) (slots_written s.log) (pages_written s.log) s.slot_limit page d (omega (arith, below, kept_count s p kept))

-- the page of that number, there or the next new one
pub kept_page_or_new : (s : HeapState) (p : PagesValue) (page : ℕ) → IsKept s p → page ≤ pages_written s.log → page_or_new p.pages p.limit page ≡ page_of s page
kept_page_or_new s p page kept within =
    ap (λ (limit : ℕ). page_or_new p.pages limit page) kept.limit
    ∙ (ap (λ (ps : List PageValue). page_or_new ps s.slot_limit page) kept.pages_are
    ∙ page_or_new_pages_by (slot_of s.log) (slots_written s.log) (pages_written s.log) s.slot_limit page within (slots_past s.log page))

-- each RID's slot is what the log tells
pub kept_slot : (s : HeapState) (p : PagesValue) (rid : Rid) → IsKept s p → slot_in p.pages rid ≡ slot_of s.log rid
kept_slot s p rid kept =
    ap (λ (ps : List PageValue). slot_in ps rid) kept.pages_are ∙ (elim (cases_lt rid.slot (slots_written s.log rid.page)) [
      | inl below ↦ elim (cases_lt rid.page (pages_written s.log)) [
        | inl there ↦ slot_in_pages (slot_of s.log) (slots_written s.log) (pages_written s.log) s.slot_limit rid there below
        | inr past ↦ let none = slots_past s.log rid.page past in absurd (omega (arith, none, below))
      ]
      | inr past ↦
          slot_in_past (slot_of s.log) (slots_written s.log) (pages_written s.log) s.slot_limit rid (λ there. past) ∙ sym (slot_past s.log rid past)
    ])

-- the rows that stand fit the columns
pub rows_fit : (kinds : List Kind) (log : List LogRec) → WritesFit kinds log → RowsFit kinds log
rows_fit kinds log fit = record {
  is_row = λ rid cells stands. (by (newest_at log rid) cells stands).0;
  fitting = λ rid cells stands. (by (newest_at log rid) cells stands).1;
} where
  by : (o : Option ℕ) (cells : List Cell) → row_at log o ≡ Some cells → IsRow cells × (fits kinds cells ≡ true)
  by None cells e = absurd (cc)
  by (Some n) cells e = fit n cells e

bytes_of-slot_with : (cells : Option (List Cell)) (h : Option ℕ) (reserve : ℕ) → bytes_of (slot_with cells h reserve) ≡ option_map row_bytes cells
bytes_of-slot_with None None reserve = refl
bytes_of-slot_with None (Some txn) reserve = refl
bytes_of-slot_with (Some cells) h reserve = refl

spells_live : (kinds : List Kind) (cells : Option (List Cell)) → ((row : List Cell) → cells ≡ Some row → IsRow row × (fits kinds row ≡ true))
    → IfSome cells (λ row. Spells kinds (row_bytes row) row)
spells_live kinds None fit = tt
spells_live kinds (Some row) fit = let held = fit row refl in record { held = held.0.each; fitting = held.1; bytes_are = refl }

-- each slot of a page shows the row that stands there
kept_shows : (s : HeapState) (p : PagesValue) (rid : Rid) → IsKept s p → Shows s.schema (slot_of s.log rid) (live_at s.log rid)
kept_shows s p rid kept =
    let fit = rows_fit s.schema s.log kept.writes_fit in
    record {
      bytes = bytes_of-slot_with (live_at s.log rid) (holder s.log rid) (room_needed s.log rid);
      spells = spells_live s.schema (live_at s.log rid) (λ row stands. (fit.is_row rid row stands, fit.fitting rid row stands));
    }

-- the slot of a RID in the pages shows the row that stands there
pub slot_shows : (s : HeapState) (p : PagesValue) (rid : Rid) → IsKept s p → Shows s.schema (slot_in p.pages rid) (live_at s.log rid)
slot_shows s p rid kept = subst (λ (slot : Slot). Shows s.schema slot (live_at s.log rid)) (sym (kept_slot s p rid kept)) (kept_shows s p rid kept)

-- a new page takes any row
new_page_takes : (limit size : ℕ) → 0 < limit → size ≤ 1224 → room_for (new_page limit) size ≡ Some 0
new_page_takes limit size some small = grind (arith, nat_tests, some, small)

-- the slot that a page has room in is a free one of its own or the next one
room_within : (page : PageValue) (size slot : ℕ) → room_for page size ≡ Some slot → (slot ≤ length page.slots) × (slot_at page slot ≡ free)
room_within page size slot room = by_first page size slot (position is_free page.slots) refl room where
  is_free_free : (x : Slot) → is_free x ≡ true → x ≡ free
  is_free_free free e = refl
  is_free_free (held_slot r) e = absurd (cc)
  is_free_free (row_slot b r) e = absurd (cc)

  by_first : (page : PageValue) (size slot : ℕ) (first : Option ℕ) → position is_free page.slots ≡ first → slot_for first page size ≡ Some slot
      → (slot ≤ length page.slots) × (slot_at page slot ≡ free)
  by_first page size slot None is room =
      let e = (cond_some _ (length page.slots) slot room).1 in
      (omega (arith, e), get_or_past page.slots slot free (omega (arith, e)))
  by_first page size slot (Some s) is room =
      let found = position-Some is_free page.slots s free is in
      let e = (cond_some _ s slot room).1 in
      (omega (arith, e, found.0), is_free_free (slot_at page slot) (ap (λ (k : ℕ). is_free (get_or page.slots k free)) (sym e) ∙ found.1))

-- where an insert goes
pub record GoesTo (s : HeapState) (size : ℕ) (rid : Rid) : Type 0 where
  pub page : rid.page ≤ pages_written s.log
  pub room : room_for (page_of s rid.page) size ≡ Some rid.slot
  pub slot : rid.slot ≤ slots_written s.log rid.page
  pub empty : slot_of s.log rid ≡ free
  pub limit : rid.page < s.page_limit

-- the slot that a page of the table has room in is empty
empty_slot : (s : HeapState) (page size slot : ℕ) → room_for (page_of s page) size ≡ Some slot
    → (slot ≤ slots_written s.log page) × (slot_of s.log (rid_at page slot) ≡ free)
empty_slot s page size slot room =
    let within = room_within (page_of s page) size slot room in
    let len = length_page_by (slot_of s.log) (slots_written s.log) s.slot_limit page in
    let low : slot ≤ slots_written s.log page = omega (arith, within.0, len) in (
      low,
      elim (cases_lt slot (slots_written s.log page)) [
        | inl below ↦ sym (get_or_page_by (slot_of s.log) (slots_written s.log) s.slot_limit page slot free below) ∙ within.1
        | inr past ↦ slot_past s.log (rid_at page slot) past
      ],
    )

goes_on :
    (s : HeapState) (p : PagesValue) (size page : ℕ) (rid : Rid) (slot : Option ℕ) → IsKept s p → page < pages_written s.log
    → room_for (page_of s page) size ≡ slot → option_map (rid_at page) slot ≡ Some rid → GoesTo s size rid
goes_on s p size page rid None kept below room on = absurd (cc)
goes_on s p size page rid (Some slot) kept below room on =
    let within = empty_slot s page size slot room in
    subst (GoesTo s size) (same_Some (rid_at page slot) rid on) (record {
      page = omega (arith, below);
      room = room;
      slot = within.0;
      empty = within.1;
      limit = omega (arith, below, kept.within);
    })

pub goes_to :
    (s : HeapState) (p : PagesValue) (size : ℕ) (rid : Rid) → IsKept s p → IsRowSize size → insert_place s size ≡ Some rid
    → GoesTo s size rid
goes_to s p size rid kept sized place = by_page (position (takes size) (table_pages s)) refl place where
  by_page : (found : Option ℕ) → position (takes size) (table_pages s) ≡ found → place_on s size found ≡ Some rid → GoesTo s size rid
  by_page (Some page) is place =
      let len = length_pages_by (slot_of s.log) (slots_written s.log) (pages_written s.log) s.slot_limit in
      let found = position-Some (takes size) (table_pages s) page (new_page s.slot_limit) is in
      goes_on s p size page rid (room_for (page_of s page) size) kept (omega (arith, len, found.0)) refl place
  by_page None is place =
      let count = pages_written s.log in
      let next = cond_some (nat_lt count s.page_limit) (rid_at count 0) rid place in
      let fresh : page_of s count ≡ new_page s.slot_limit =
      ap (λ (n : ℕ). page_by (slot_of s.log) (λ _. n) s.slot_limit count) (slots_past s.log count (omega arith)) in
      let room : room_for (page_of s count) size ≡ Some 0 =
      ap (λ (q : PageValue). room_for q size) fresh ∙ new_page_takes s.slot_limit size (kept_slots s p kept) sized.1 in
      let within = empty_slot s count size 0 room in
      subst (GoesTo s size) next.1 (record {
        page = omega arith;
        room = room;
        slot = within.0;
        empty = within.1;
        limit = grind (arith, nat_tests, next.0);
      })

pub fits_accepted : (kinds : List Kind) (cells : List Cell) → shape_refusal kinds cells ≡ None → fits kinds cells ≡ true
fits_accepted kinds cells accepted = by_test (fits kinds cells) refl where
  by_test : (t : Bool) → fits kinds cells ≡ t → fits kinds cells ≡ true
  by_test true is = is
  by_test false is =
      let e : Some RowShape ≡ None = sym (ap (λ (t : Bool). if t then None else Some RowShape) is) ∙ accepted in absurd (cc)

pub found_below : (pages : List PageValue) (size page : ℕ) → position (takes size) pages ≡ Some page → page < length pages
found_below pages size page found = (position-Some (takes size) pages page (new_page 0) found).0

pub found_takes :
    (pages : List PageValue) (size page limit : ℕ) → position (takes size) pages ≡ Some page → is_some (room_for (page_or_new pages limit page) size) ≡ true
found_takes pages size page limit found = (position-Some (takes size) pages page (new_page limit) found).1

-- the place on the lowest page that takes a row
pub place_found :
    (s : HeapState) (p : PagesValue) (size page slot limit : ℕ) → IsKept s p → position (takes size) p.pages ≡ Some page
    → room_for (page_or_new p.pages limit page) size ≡ Some slot → insert_place s size ≡ Some (rid_at page slot)
place_found s p size page slot limit kept found room =
    let below = found_below p.pages size page found in
    ap (place_on s size) (ap (position (takes size)) (sym kept.pages_are) ∙ found)
    ∙ ap (option_map (rid_at page)) (ap (λ (q : PageValue). room_for q size) (sym (kept_page s p page (new_page limit) kept below)) ∙ room)

-- a copy of a page
pub kept_image :
    (s : HeapState) (p : PagesValue) (page : ℕ) (value : PageValue) (image : ImageValue) → IsKept s p → page < pages_written s.log
    → value ≡ get_or p.pages page value → image.page ≡ page → image.slots ≡ value.slots → image.schema ≡ s.schema
    → IsImage s.schema s.log page image
kept_image s p page value image kept below is number slots columns =
    let count = kept_count s p kept in
    let same : value ≡ page_of s page = is ∙ kept_page s p page value kept (omega (arith, below, count)) in
    let shown : image.slots ≡ page_slots s.log page = slots ∙ ap (λ (q : PageValue). q.slots) same in
    record {
      number = number;
      schema = columns;
      count = ap length shown ∙ length_page_by (slot_of s.log) (slots_written s.log) s.slot_limit page;
      rows = λ slot.
          subst (λ (xs : List Slot). Shows s.schema (get_or xs slot free) (live_at s.log (rid_at page slot))) (sym shown) (page_slot_shows slot);
    } where
      page_slot_shows : (slot : ℕ) → Shows s.schema (get_or (page_slots s.log page) slot free) (live_at s.log (rid_at page slot))
      page_slot_shows slot =
          let at : get_or (page_slots s.log page) slot free ≡ slot_of s.log (rid_at page slot) = elim (cases_lt slot (slots_written s.log page)) [
            | inl here ↦ get_or_page_by (slot_of s.log) (slots_written s.log) s.slot_limit page slot free here
            | inr past ↦
                let len = length_page_by (slot_of s.log) (slots_written s.log) s.slot_limit page in
                get_or_past (page_slots s.log page) slot free (omega (arith, len, past)) ∙ sym (slot_past s.log (rid_at page slot) past)
          ] in
          subst (λ (x : Slot). Shows s.schema x (live_at s.log (rid_at page slot))) (sym at) (kept_shows s p (rid_at page slot) kept)

-- the slot of a page of the table shows the row that stands there
pub page_shows :
    (s : HeapState) (p : PagesValue) (page slot : ℕ) (value : PageValue) → IsKept s p → page < length p.pages
    → value ≡ get_or p.pages page value → Shows s.schema (slot_at value slot) (live_at s.log (rid_at page slot))
page_shows s p page slot value kept below is =
    subst (λ (q : PageValue). Shows s.schema (slot_at q slot) (live_at s.log (rid_at page slot)))
    (kept_page s p page (new_page 0) kept below ∙ sym (is ∙ kept_page s p page value kept below))
    (slot_shows s p (rid_at page slot) kept)

pub range_more : (a n : ℕ) → range_with_len a (n + 1) ≡ range_with_len a n ++ (a + n) ∷ []
range_more a zero = rw (add-zero a) refl
range_more a (suc n) =
    let next : suc n + 1 ≡ suc (n + 1) = omega arith in
    let last : a + 1 + n ≡ a + suc n = omega arith in
    ap (range_with_len a) next
    ∙ ap (λ (xs : List ℕ). a ∷ xs) (range_more (a + 1) n ∙ ap (λ (k : ℕ). range_with_len (a + 1) n ++ k ∷ []) last)

-- the rows in one slot more
pub rows_more :
    (log : List LogRec) (page slot : ℕ) (row : Option (Rid × List Cell)) → row_in log page slot ≡ row
    → filter_map (row_in log page) (range_with_len 0 (slot + 1)) ≡ filter_map (row_in log page) (range_with_len 0 slot) ++ option_to_list row
rows_more log page slot row is =
    let last : 0 + slot ≡ slot = omega arith in
    ap (filter_map (row_in log page)) (range_more 0 slot ∙ ap (λ (k : ℕ). range_with_len 0 slot ++ k ∷ []) last)
    ∙ (filter_map-append (row_in log page) (range_with_len 0 slot) (slot ∷ [])
    ∙ ap (λ (r : Option (Rid × List Cell)). filter_map (row_in log page) (range_with_len 0 slot) ++ cons_option r []) is
    ∙ ap (λ (xs : List (Rid × List Cell)). filter_map (row_in log page) (range_with_len 0 slot) ++ xs) (alone row)) where
      alone : (r : Option (Rid × List Cell)) → cons_option r [] ≡ option_to_list r
      alone None = refl
      alone (Some x) = refl

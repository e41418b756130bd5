-- Where an insert goes no row stands.
use Rattle.std.proofs.Common.{◌≡◌, ℕ, true, length, get_or, Option, Some, None, inl, inr, refl, sym, ap, ◌∙◌, subst, arith}
use Rattle.std.specs.Prelude.{nat_lt, position}
use Rattle.std.specs.Option.{option_map}
use Rattle.std.proofs.lemmas.Bool.{cases_lt}
use Rattle.std.proofs.lemmas.Option.{cond_some, same_Some}
use Rattle.std.proofs.lemmas.List.{get_or_past}
use Rattle.std.proofs.lemmas.List.Quantifiers.{position-Some}
use Rattle.keybytes.specs.declared.rid.Rid.{Rid}
use Rattle.heap_log.specs.Standing.{live_at}
use Rattle.slotted_page.specs.Page.{PageValue, slot_at, room_for, slot_for}
use Rattle.slotted_page.specs.Slot.{Slot, free, held, row, is_free}
use Rattle.heap_table.specs.HeapState.{HeapState, insert_place, page_of, place_on, table_pages, takes}
use Rattle.heap_table.specs.Pages.{pages_written, rid_at, slot_of, slots_written}
use Rattle.heap_table.proofs.LogRows.{slot_free, slot_past, slots_past}
use Rattle.heap_table.proofs.PageLists.{get_or_page_by}

is_free_free : (x : Slot) → is_free x ≡ true → x ≡ free
is_free_free free e = refl
is_free_free (held reserve) e = absurd (cc)
is_free_free (row bytes reserve) e = absurd (cc)

-- the slot in which a page has room is free
room_free : (page : PageValue) (size slot : ℕ) (first : Option ℕ) → position is_free page.slots ≡ first → slot_for first page size ≡ Some slot
    → slot_at page slot ≡ free
room_free page size slot None is room =
    let e = (cond_some _ (length page.slots) slot room).1 in get_or_past page.slots slot free (omega (arith, e))
room_free page size slot (Some s) is room =
    let found = position-Some is_free page.slots s free is in
    let e = (cond_some _ s slot room).1 in
    is_free_free (slot_at page slot) (ap (λ (k : ℕ). is_free (get_or page.slots k free)) (sym e) ∙ found.1)

-- so is that of the table
slot_there_free : (s : HeapState) (page size slot : ℕ) → room_for (page_of s page) size ≡ Some slot → slot_of s.log (rid_at page slot) ≡ free
slot_there_free s page size slot room =
    let there = room_free (page_of s page) size slot (position is_free (page_of s page).slots) refl room in
    elim (cases_lt slot (slots_written s.log page)) [
      | inl below ↦ sym (get_or_page_by (slot_of s.log) (slots_written s.log) s.slot_limit page slot free below) ∙ there
      | inr past ↦ slot_past s.log (rid_at page slot) past
    ]

on_page : (s : HeapState) (page size : ℕ) (rid : Rid) (slot : Option ℕ) → room_for (page_of s page) size ≡ slot → option_map (rid_at page) slot ≡ Some rid
    → slot_of s.log rid ≡ free
on_page s page size rid None room on = absurd (cc)
on_page s page size rid (Some slot) room on =
    subst (λ (place : Rid). slot_of s.log place ≡ free) (same_Some (rid_at page slot) rid on) (slot_there_free s page size slot room)

goes_on : (s : HeapState) (size : ℕ) (rid : Rid) (found : Option ℕ) → place_on s size found ≡ Some rid → slot_of s.log rid ≡ free
goes_on s size rid (Some page) place = on_page s page size rid (room_for (page_of s page) size) refl place
goes_on s size rid None place =
    let count = pages_written s.log in
    let next = cond_some (nat_lt count s.page_limit) (rid_at count 0) rid place in
    subst (λ (there : Rid). slot_of s.log there ≡ free) next.1
    (slot_past s.log (rid_at count 0) (let none = slots_past s.log count (omega arith) in omega (arith, none)))

pub goes_free : (s : HeapState) (size : ℕ) (rid : Rid) → insert_place s size ≡ Some rid → live_at s.log rid ≡ None
goes_free s size rid place = (slot_free s.log rid (goes_on s size rid (position (takes size) (table_pages s)) place)).0

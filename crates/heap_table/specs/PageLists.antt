-- The pages of a table as a list of values: the slot of a RID, and pages by what a function gives each RID.
use Rattle.std.specs.Prelude.{◌≡◌, ◌<◌, ◌≤◌, is_some, nat_le, ℕ, max, nat_lt, Bool, true, false, if◌then◌else◌, Option, Some}
use Rattle.std.specs.Prelude.{None, List, [], ◌∷◌, ◌++◌, length, map, get_or, set}
use Rattle.std.specs.List.{range_with_len}
use Rattle.chunk_list.specs.ChunkValue.{ChunkValue}
use Rattle.keybytes.specs.declared.rid.Rid.{Rid}
use Rattle.slotted_page.specs.Slot.{Slot, held, row, reserve_of, settled}
use Rattle.slotted_page.specs.Page.{PageValue, slot_at, with_slot, room_for}
use Rattle.heap_table.specs.Rooms.{RoomsValue}
use Rattle.heap_table.specs.Pages.{rid_at}

-- the pages by number, the limit on a page's slots, and how many pages can be added without taking memory
pub record PagesValue : Type 0 where
  pub pages : List PageValue
  pub limit : ℕ
  pub spare : ℕ

-- a page with no slots
abbrev pub new_page : ℕ → PageValue
new_page limit = record { slots = []; limit = limit }

-- the page of that number, a new one where there is none yet
abbrev pub page_or_new : List PageValue → ℕ → ℕ → PageValue
page_or_new pages limit page = get_or pages page (new_page limit)

-- the slot of a RID, which is free where there is none
abbrev pub slot_in : List PageValue → Rid → Slot
slot_in pages rid = slot_at (get_or pages rid.page (new_page 0)) rid.slot

-- the page of a RID, there or new, with another slot at the RID
abbrev pub page_with_slot : List PageValue → ℕ → Rid → Slot → PageValue
page_with_slot pages limit rid slot = with_slot (page_or_new pages limit rid.page) rid.slot slot

-- the pages with another slot at the RID, on a page that is there or on the next new one
abbrev pub with_slot_in : List PageValue → ℕ → Rid → Slot → List PageValue
with_slot_in pages limit rid slot =
    if nat_lt rid.page (length pages) then set pages rid.page (page_with_slot pages limit rid slot)
    else pages ++ page_with_slot pages limit rid slot ∷ []

-- a page of so many slots, each with what the function gives its RID
abbrev pub page_by : (Rid → Slot) → (ℕ → ℕ) → ℕ → ℕ → PageValue
page_by slot slots limit page =
    record { slots = map (λ k. slot (rid_at page k)) (range_with_len 0 (slots page)); limit = limit }

-- so many such pages, from page 0 on
abbrev pub pages_by : (Rid → Slot) → (ℕ → ℕ) → ℕ → ℕ → List PageValue
pages_by slot slots count limit = map (page_by slot slots limit) (range_with_len 0 count)

-- what a slot becomes with a new row, or with none until its transaction ends: its reserve grows with the row
abbrev pub changed : Slot → Option (List ℕ) → Slot
changed slot None = held (reserve_of slot)
changed slot (Some bytes) = row bytes (max (reserve_of slot) (length bytes))

-- a slot that is to be settled, or not
abbrev pub settled_if : Bool → Slot → Slot
settled_if true slot = settled slot
settled_if false slot = slot

-- each page takes rows up to its room
pub record RoomsAreOf (pages : List PageValue) (rooms : List ℕ) : Type 0 where
  pub count : length rooms ≡ length pages
  pub takes : (i len : ℕ) (d : PageValue) → i < length pages → 0 < len → is_some (room_for (get_or pages i d) len) ≡ nat_le len (get_or rooms i 0)

-- the rooms go with the pages, and there is memory for that many more of both
pub record ArePages (pages : ChunkValue PageValue) (rooms : RoomsValue) (limit spare : ℕ) : Type 0 where
  pub some : 0 < limit
  pub follow : RoomsAreOf pages.items rooms.rooms
  pub pages_room : spare ≤ pages.room
  pub rooms_room : spare ≤ rooms.spare

-- The pages of a table, as its log tells them: how many there are, and what their slots hold.
use Rattle.std.specs.Prelude.{◌≡◌, ◌≢◌, ◌<◌, ℕ, ◌+◌, ◌==◌, max, if◌then◌else◌, List, [], ◌∷◌, map, Option, Some, None}
use Rattle.std.specs.List.{range_with_len, filter_map}
use Rattle.std.specs.Option.{option_map}
use Rattle.keybytes.specs.Rows.{row_bytes}
use Rattle.keybytes.specs.declared.cell.Cell.{Cell}
use Rattle.keybytes.specs.declared.rid.Rid.{Rid}
use Rattle.heap_log.specs.declared.record.LogRec.{LogRec}
use Rattle.heap_log.specs.declared.record.LogRec.TheVariants.{Write, Undo, Commit, Switch}
use Rattle.heap_log.specs.Standing.{live_at}
use Rattle.heap_table.specs.Holders.{holder, room_held_by}
use Rattle.slotted_page.specs.Slot.{Slot, free, held, row}

abbrev pub rid_at : ℕ → ℕ → Rid
rid_at page slot = record { page = page; slot = slot }

-- 1 more than the slot that the record writes on the page
abbrev pub slot_end : ℕ → LogRec → ℕ
slot_end page (Write txn rid cells) = if rid.page == page then rid.slot + 1 else 0
slot_end page (Undo txn n) = 0
slot_end page (Commit txn) = 0
slot_end page (Switch verdicts) = 0

-- 1 more than the greatest slot ever written on the page; 0 where none was
abbrev pub slots_written : List LogRec → ℕ → ℕ
slots_written [] page = 0
slots_written (rec ∷ log) page = max (slot_end page rec) (slots_written log page)

-- 1 more than the page that the record writes
abbrev pub page_end : LogRec → ℕ
page_end (Write txn rid cells) = rid.page + 1
page_end (Undo txn n) = 0
page_end (Commit txn) = 0
page_end (Switch verdicts) = 0

-- 1 more than the greatest page ever written; 0 where none was
abbrev pub pages_written : List LogRec → ℕ
pages_written [] = 0
pages_written (rec ∷ log) = max (page_end rec) (pages_written log)

-- the slot of a RID with that row, if any, that holder, if any, and that reserve
abbrev pub slot_with : Option (List Cell) → Option ℕ → ℕ → Slot
slot_with None None reserve = free
slot_with None (Some txn) reserve = held reserve
slot_with (Some cells) holder reserve = row (row_bytes cells) reserve

-- what the slot of a RID has under that holder
abbrev pub slot_under : Option ℕ → List LogRec → Rid → Slot
slot_under holder log rid = slot_with (live_at log rid) holder (room_held_by holder log rid)

-- what the slot of a RID has
abbrev pub slot_of : List LogRec → Rid → Slot
slot_of log rid = slot_under (holder log rid) log rid

-- the slots of a page, from slot 0 on
abbrev pub page_slots : List LogRec → ℕ → List Slot
page_slots log page = map (λ slot. slot_of log (rid_at page slot)) (range_with_len 0 (slots_written log page))

-- the row that stands in a slot, with its RID
abbrev pub row_in : List LogRec → ℕ → ℕ → Option (Rid × List Cell)
row_in log page slot = option_map (λ cells. (rid_at page slot, cells)) (live_at log (rid_at page slot))

-- the rows that stand on a page, by slot
abbrev pub rows_on : List LogRec → ℕ → List (Rid × List Cell)
rows_on log page = filter_map (row_in log page) (range_with_len 0 (slots_written log page))

-- the same rows stand, on the same pages
pub record KeepsRows (old new : List LogRec) : Type 0 where
  pub live : (rid : Rid) → live_at new rid ≡ live_at old rid
  pub pages : pages_written new ≡ pages_written old
  pub slots : (page : ℕ) → slots_written new page ≡ slots_written old page

-- at that RID that row stands, or none, and elsewhere the same rows do
pub record SetsRow (old : List LogRec) (rid : Rid) (cells : Option (List Cell)) (new : List LogRec) : Type 0 where
  pub here : live_at new rid ≡ cells
  pub elsewhere : (other : Rid) → other ≢ rid → live_at new other ≡ live_at old other

-- a row stands only where a write put one
pub record RowsAreInside (log : List LogRec) : Type 0 where
  pub page : (rid : Rid) (cells : List Cell) → live_at log rid ≡ Some cells → rid.page < pages_written log
  pub slot : (rid : Rid) (cells : List Cell) → live_at log rid ≡ Some cells → rid.slot < slots_written log rid.page

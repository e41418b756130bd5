-- Changes that a table will take, and what they do to its pages.
use Rattle.std.specs.Prelude.{◌≡◌, ◌<◌, ◌≤◌, ℕ, true, List, [], length, Option, Some, None, IfSome}
use Rattle.keybytes.specs.Rows.{IsRow, row_bytes}
use Rattle.keybytes.specs.declared.cell.Cell.{Cell}
use Rattle.keybytes.specs.declared.rid.Rid.{Rid}
use Rattle.heap_log.specs.declared.record.LogRec.{LogRec}
use Rattle.heap_log.specs.Places.{HasPlace}
use Rattle.heap_log.specs.Standing.{record_at, rid_of, live_at, row_at, newest_standing, standing_before, standing_count}
use Rattle.slotted_page.specs.Slot.{Slot, reserve_of, IsRow as HasRow, IsHeld, IsTaken, IsRowSize}
use Rattle.slotted_page.specs.Page.{room_for, fits_at}
use Rattle.heap_table.specs.declared.performed.Performed.{Performed}
use Rattle.heap_table.specs.declared.performed.Performed.TheVariants.{Written, Undone as Undid}
use Rattle.heap_table.specs.declared.ready.Ready.{Ready}
use Rattle.heap_table.specs.HeapState.{HeapState, is_open, insert_refusal, insert_place, update_refusal, delete_refusal, after_write, after_undo}
use Rattle.heap_table.specs.HeapValue.{HeapValue}
use Rattle.heap_table.specs.Holders.{wrote}
use Rattle.heap_table.specs.Kept.{IsTableRow}
use Rattle.heap_table.specs.Sound.{IsWriterAt}
use Rattle.heap_table.specs.PageLists.{PagesValue, page_or_new, slot_in, pages_by}

-- the bytes of a row, none without one
abbrev pub bytes_of_row : Option (List Cell) → List ℕ
bytes_of_row None = []
bytes_of_row (Some cells) = row_bytes cells

-- a row of a size that a page can have
abbrev pub IsSized : List Cell → Type 0
IsSized cells = IsRow cells × IsRowSize (length (row_bytes cells))

-- nothing refuses the change: a write that puts the new row in the place of the old one, or the undo of that write
abbrev pub IsLawful : HeapState → ℕ → Rid → Option ℕ → Option (List Cell) → Option (List Cell) → Type 0
IsLawful s txn rid None None None = ⊥
IsLawful s txn rid None None (Some new) = (insert_refusal s txn new ≡ None) × (insert_place s (length (row_bytes new)) ≡ Some rid)
IsLawful s txn rid None (Some old) None = delete_refusal s txn rid ≡ None
IsLawful s txn rid None (Some old) (Some new) = update_refusal s txn rid new ≡ None
IsLawful s txn rid (Some n) old new =
    (is_open s.active txn ≡ true) × (newest_standing s.log txn ≡ Some n) × (rid ≡ rid_of (record_at s.log n))
    × (new ≡ row_at s.log (standing_before s.log n))

-- the table will take the change
pub record IsReady (h : HeapValue) (ready : Ready) : Type 0 where
  pub memory : 0 < h.room
  pub place : HasPlace ready.rid h.places
  pub old : ready.old ≡ live_at h.state.log ready.rid
  pub new : IfSome ready.new IsSized
  pub bytes : ready.bytes.items ≡ bytes_of_row ready.new
  pub lawful : IsLawful h.state ready.txn ready.rid ready.undone ready.old ready.new

-- what holds of a change that is made ready
pub record IsLawfulChange (s : HeapState) (ready : Ready) : Type 0 where
  -- its rows are rows of the table's columns
  pub old_fits : IfSome ready.old (IsTableRow s.schema)
  pub new_fits : IfSome ready.new (IsTableRow s.schema)
  -- a write is by who may write there
  pub writer : ready.undone ≡ None → IsWriterAt s ready.txn ready.rid

-- it is the transaction's write of that row, or of none
pub record Writes (ready : Ready) (txn : ℕ) (row : Option (List Cell)) : Type 0 where
  pub by : ready.txn ≡ txn
  pub undone : ready.undone ≡ None
  pub new : ready.new ≡ row

-- it is the undo of the transaction's write of that number
pub record IsUndo (ready : Ready) (txn n : ℕ) : Type 0 where
  pub by : ready.txn ≡ txn
  pub undone : ready.undone ≡ Some n

-- what a change leaves
abbrev pub after_change : HeapState → ℕ → Rid → Option ℕ → Option (List Cell) → HeapState
after_change s txn rid None new = after_write s txn rid new
after_change s txn rid (Some n) new = after_undo s txn n

abbrev pub after_ready : HeapState → Ready → HeapState
after_ready s ready = after_change s ready.txn ready.rid ready.undone ready.new

-- what a change answers, from what it leaves
abbrev pub answer_of : HeapState → ℕ → Rid → Option ℕ → Performed
answer_of s txn rid None = Written (length s.log) rid
answer_of s txn rid (Some n) = Undid (record { number = length s.log; left = standing_count s.log txn })

-- the pages take a write that puts the new row in the place of the old one
abbrev pub CanWrite : PagesValue → Rid → Option (List Cell) → Option (List Cell) → Type 0
CanWrite p rid None None = ⊥
CanWrite p rid None (Some new) =
    (rid.page ≤ length p.pages) × (room_for (page_or_new p.pages p.limit rid.page) (length (row_bytes new)) ≡ Some rid.slot)
    × (0 < p.spare) × (reserve_of (slot_in p.pages rid) ≡ 0)
CanWrite p rid (Some old) None = HasRow (slot_in p.pages rid)
CanWrite p rid (Some old) (Some new) =
    HasRow (slot_in p.pages rid) × (fits_at (page_or_new p.pages 0 rid.page) rid.slot (length (row_bytes new)) ≡ true)

-- the pages take the old row back
abbrev pub CanRestore : PagesValue → Rid → Option (List Cell) → Option (List Cell) → Type 0
CanRestore p rid old (Some new) = IsTaken (slot_in p.pages rid) × (length (row_bytes new) ≤ reserve_of (slot_in p.pages rid))
CanRestore p rid (Some old) None = HasRow (slot_in p.pages rid)
CanRestore p rid None None = IsHeld (slot_in p.pages rid)

-- the pages are of so many slots, and have one for each RID that the transaction wrote
abbrev pub HaveWritten : PagesValue → List LogRec → ℕ → (Rid → Slot) → (ℕ → ℕ) → ℕ → ℕ → Type 0
HaveWritten p log txn slot slots count limit =
    (p.pages ≡ pages_by slot slots count limit)
    × ((rid : Rid) → wrote log txn rid ≡ true → (rid.page < count) × (rid.slot < slots rid.page))

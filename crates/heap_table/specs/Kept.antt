-- What a table keeps between its calls.
use Rattle.std.specs.Prelude.{◌≡◌, ◌<◌, ◌≤◌, ℕ, true, false, List, [], ◌∷◌, length, Some}
use Rattle.keybytes.specs.Cells.{fits}
use Rattle.keybytes.specs.Rows.{IsRow}
use Rattle.keybytes.specs.declared.cell.Cell.{Cell}
use Rattle.keybytes.specs.declared.kind.Kind.{Kind}
use Rattle.keybytes.specs.declared.rid.Rid.{Rid}
use Rattle.heap_log.specs.declared.record.LogRec.{LogRec}
use Rattle.heap_log.specs.Standing.{record_at, is_write_of, row_of, live_at}
use Rattle.heap_table.specs.Limits.{slots_most}
use Rattle.heap_table.specs.declared.open_txn.OpenTxn.{OpenTxn}
use Rattle.heap_table.specs.HeapState.{HeapState, is_open, table_pages, are_limits}
use Rattle.heap_table.specs.HeapValue.{HeapValue}
use Rattle.heap_table.specs.PageLists.{PagesValue}
use Rattle.heap_table.specs.Pages.{pages_written}
use Rattle.heap_table.specs.Sound.{IsSound, UndoFits}

-- a row of these columns
abbrev pub IsTableRow : List Kind → List Cell → Type 0
IsTableRow kinds cells = IsRow cells × (fits kinds cells ≡ true)

-- every row that stands is a row of these columns
pub record RowsFit (kinds : List Kind) (log : List LogRec) : Type 0 where
  pub is_row : (rid : Rid) (cells : List Cell) → live_at log rid ≡ Some cells → IsRow cells
  pub fitting : (rid : Rid) (cells : List Cell) → live_at log rid ≡ Some cells → fits kinds cells ≡ true

-- so is every row that was written
abbrev pub WritesFit : List Kind → List LogRec → Type 0
WritesFit kinds log = (n : ℕ) (cells : List Cell) → row_of (record_at log n) ≡ Some cells → IsTableRow kinds cells

-- the pages are those that the log tells, and the log is one that a table may have
pub record IsKept (s : HeapState) (pages : PagesValue) : Type 0 where
  pub pages_are : pages.pages ≡ table_pages s
  pub limit : pages.limit ≡ s.slot_limit
  pub writes_fit : WritesFit s.schema s.log
  pub sound : IsSound s
  pub undo_fits : UndoFits s.log
  pub limits : are_limits s.slot_limit s.page_limit ≡ true
  pub slots_below : s.slot_limit ≤ slots_most
  pub within : pages_written s.log ≤ s.page_limit

-- up to which record each write is of a transaction that has ended: the last one, where none is open
abbrev pub ended_to : List OpenTxn → List LogRec → ℕ → ℕ
ended_to [] log before = length log
ended_to (t ∷ active) log before = before

-- each open transaction has one of so many places for its writes, and each write up to that record is of one that has ended
pub record TxnsAreKept (s : HeapState) (places ended : ℕ) : Type 0 where
  pub placed : (txn : ℕ) → is_open s.active txn ≡ true → txn < places
  pub within : ended ≤ length s.log
  pub over : (txn n : ℕ) → n ≤ ended → is_write_of txn (record_at s.log n) ≡ true → is_open s.active txn ≡ false

-- and each record that there is memory for can be of a row on a new page
pub record IsKeptWithRoom (h : HeapValue) (pages : PagesValue) (places ended : ℕ) : Type 0 where
  pub kept : IsKept h.state pages
  pub room : h.room ≤ pages.spare
  pub txns : TxnsAreKept h.state places ended

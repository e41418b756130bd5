-- Copies of pages.
use Rattle.std.specs.Prelude.{◌≡◌, ℕ, List, length, get_or, Option, IfSome}
use Rattle.std.specs.Option.{option_map}
use Rattle.keybytes.specs.Rows.{row_bytes, Spells}
use Rattle.keybytes.specs.declared.cell.Cell.{Cell}
use Rattle.keybytes.specs.declared.kind.Kind.{Kind}
use Rattle.heap_log.specs.declared.record.LogRec.{LogRec}
use Rattle.heap_log.specs.Standing.{live_at}
use Rattle.slotted_page.specs.Slot.{Slot, free, bytes_of}
use Rattle.heap_table.specs.Pages.{rid_at, slots_written}

-- a copy: the page's number, its slots, and the columns of its table
pub record ImageValue : Type 0 where
  pub page : ℕ
  pub slots : List Slot
  pub schema : List Kind

abbrev pub image_slot : ImageValue → ℕ → Slot
image_slot image slot = get_or image.slots slot free

-- the slot has the bytes of that row of these columns, or of none
pub record Shows (kinds : List Kind) (slot : Slot) (cells : Option (List Cell)) : Type 0 where
  pub bytes : bytes_of slot ≡ option_map row_bytes cells
  pub spells : IfSome cells (λ row. Spells kinds (row_bytes row) row)

-- these are the rows of a copy, read by these columns: in each slot one, or none
abbrev pub HasRows : List Kind → ImageValue → (ℕ → Option (List Cell)) → Type 0
HasRows kinds image rows = (slot : ℕ) → Shows kinds (image_slot image slot) (rows slot)

-- the rows on a copy can be read by its own columns
abbrev pub IsReadable : ImageValue → Type 0
IsReadable image = (rows : ℕ → Option (List Cell)) × HasRows image.schema image rows

-- the copy of a page as it stands after that log
pub record IsImage (kinds : List Kind) (log : List LogRec) (page : ℕ) (image : ImageValue) : Type 0 where
  pub number : image.page ≡ page
  pub schema : image.schema ≡ kinds
  pub count : length image.slots ≡ slots_written log page
  pub rows : (slot : ℕ) → Shows kinds (image_slot image slot) (live_at log (rid_at page slot))

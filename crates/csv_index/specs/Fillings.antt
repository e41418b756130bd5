-- How a table is filled from the records of a text.
use Rattle.std.specs.Prelude.{◌≡◌, ◌≢◌, ◌⊎◌, ◌+◌, ℕ, Bool, false, List, [], ◌∷◌, length, Option, None, Some}
use Rattle.std.specs.List.{AllZip, Any}
use Rattle.csv.specs.Records.{field_at}
use Rattle.heap_table.specs.HeapState.{HeapState, empty_heap, insert_place}
use Rattle.heap_table.specs.Pages.{KeepsRows, SetsRow}
use Rattle.keybytes.specs.Rows.{row_bytes}
use Rattle.keybytes.specs.declared.cell.Cell.{Cell}
use Rattle.keybytes.specs.declared.kind.Kind.{Kind}
use Rattle.keybytes.specs.declared.rid.Rid.{Rid}
use Rattle.script.specs.Records.{records_of}
use Rattle.csv_index.specs.Cells.{IsNoCell, ReadsAs}
use Rattle.csv_index.specs.Headers.{AreFound}
use Rattle.csv_index.specs.Lines.{AreNoted, NotesLine}
use Rattle.csv_index.specs.OpenTxns.{KeepsOpen}
use Rattle.csv_index.specs.Sizes.{AddsRow, HaveSizes}
use Rattle.csv_index.specs.declared.table.column.Column.{Column}
use Rattle.csv_index.specs.declared.table.filling.Filled.{Filled}
use Rattle.csv_index.specs.declared.table.source.Source.{Source}

-- a field, or an empty one where there is none
abbrev pub field_or_empty : Option (List ℕ) → List ℕ
field_or_empty None = []
field_or_empty (Some field) = field

-- the field of the column is read as the cell
abbrev pub IsCellAt : List (List ℕ) → Source → Cell → Type 0
IsCellAt fields source cell = ReadsAs source.kind (field_or_empty (field_at fields source.at)) cell

-- the record has as many fields as the header, and those of the columns are read as the cells
abbrev pub SpellsRow : ℕ → List Source → List (List ℕ) → List Cell → Type 0
SpellsRow width sources fields cells = (length fields ≡ width) × AllZip (IsCellAt fields) sources cells

-- the record has more or fewer fields, or that of a column is no cell
abbrev pub IsNoRow : ℕ → List Source → List (List ℕ) → Type 0
IsNoRow width sources fields =
    (length fields ≢ width) ⊎ Any (λ source. IsNoCell source.kind (field_or_empty (field_at fields source.at))) sources

-- a record becomes the row that it spells, or none where it spells none
abbrev pub Becomes : ℕ → List Source → List (List ℕ) → Option (List Cell) → Type 0
Becomes width sources fields None = IsNoRow width sources fields
Becomes width sources fields (Some cells) = SpellsRow width sources fields cells

-- the rows that are there
abbrev pub rows_there : List (Option (List Cell)) → List (List Cell)
rows_there [] = []
rows_there (None ∷ rows) = rows_there rows
rows_there (Some row ∷ rows) = row ∷ rows_there rows

-- how many aren't
abbrev pub none_count : List (Option (List Cell)) → ℕ
none_count [] = 0
none_count (None ∷ rows) = none_count rows + 1
none_count (Some row ∷ rows) = none_count rows

-- the row is put at that place, where an insert goes, whatever transactions began or ended before; all other rows stay as they are
pub record IsPutIn (before : HeapState) (row : List Cell) (place : Rid) (after : HeapState) : Type 0 where
  pub between : HeapState
  pub kept : KeepsRows before.log between.log
  pub goes : insert_place between (length (row_bytes row)) ≡ Some place
  pub put : SetsRow between.log place (Some row) after.log

-- these rows are put in at these places, one after the other
abbrev pub ArePutIn : HeapState → List (List Cell) → List Rid → HeapState → Type 0
ArePutIn before [] [] after = KeepsRows before.log after.log
ArePutIn before [] (place ∷ places) after = ⊥
ArePutIn before (row ∷ rows) [] after = ⊥
ArePutIn before (row ∷ rows) (place ∷ places) after =
    (between : HeapState) × IsPutIn before row place between × ArePutIn between rows places after

-- each record became a row or none, and those rows were put into the table, in order, with the lines of places of the text up to one
pub record AreTaken
    (width : ℕ) (sources : List Source) (text : List ℕ) (read : ℕ) (records : List (List (List ℕ))) (start : HeapState) (filled : Filled)
    : Type 0 where
  pub rows : List (Option (List Cell))
  pub places : List Rid
  pub spelled : AllZip (Becomes width sources) records rows
  pub put : ArePutIn start (rows_there rows) places filled.heap.state
  pub counted : filled.rows ≡ length (rows_there rows)
  pub left_out : filled.left_out ≡ none_count rows
  pub sized : HaveSizes (length sources) (rows_there rows) filled.sizes.items
  pub noted : AreNoted text 0 places read filled.lines

-- a record that became no row is counted
abbrev pub IsLeftOut : Filled → Filled → Type 0
IsLeftOut before after = after ≡ record before { left_out = before.left_out + 1 }

-- a row that came from that line was put in
pub record PutsRow (row : List Cell) (line : ℕ) (before after : Filled) : Type 0 where
  pub place : Rid
  pub put : IsPutIn before.heap.state row place after.heap.state
  pub open_txns : KeepsOpen before.heap.state after.heap.state
  pub noted : NotesLine before.lines place line after.lines
  pub sized : AddsRow row before.sizes.items after.sizes.items
  pub counted : after.rows ≡ before.rows + 1
  pub left_out : after.left_out ≡ before.left_out

-- a record that became that row was put in
pub record IsRowPut (width : ℕ) (sources : List Source) (fields : List (List ℕ)) (line : ℕ) (before after : Filled) : Type 0 where
  pub row : List Cell
  pub spelled : SpellsRow width sources fields row
  pub put : PutsRow row line before after

-- records are left out only where the bad ones are to be skipped
abbrev pub LeavesOutIf : Bool → Filled → Type 0
LeavesOutIf skips_bad filled = skips_bad ≡ false → filled.left_out ≡ 0

-- a record was taken, one way or the other
abbrev pub TakesRecord : ℕ → List Source → List (List ℕ) → ℕ → Filled → Filled → Type 0
TakesRecord width sources fields line before after =
    IsRowPut width sources fields line before after ⊎ (IsNoRow width sources fields × IsLeftOut before after)

-- transactions may have begun and ended, and nothing else happened
pub record OnlyTurns (before after : Filled) : Type 0 where
  pub rows : KeepsRows before.heap.state.log after.heap.state.log
  pub rest : after ≡ record before { heap = after.heap }

-- a table was filled from the text: the first record is the header, by whose names the fields of all others are read
pub record IsTakenIn (columns : List Column) (text : List ℕ) (start : HeapState) (filled : Filled) : Type 0 where
  pub header : List (List ℕ)
  pub records : List (List (List ℕ))
  pub are : records_of text ≡ header ∷ records
  pub sources : List Source
  pub found : AreFound header columns sources
  -- how far the text was read
  pub read : ℕ
  pub taken : AreTaken (length header) sources text read records start filled

-- so was an empty table
abbrev pub IsFilledFrom : List Kind → List Column → List ℕ → Filled → Type 0
IsFilledFrom schema columns text filled = IsTakenIn columns text (empty_heap schema 255 65536) filled

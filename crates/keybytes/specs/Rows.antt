-- Rows: which ones there are, their bytes, and what reading bytes refuses.
use Rattle.std.specs.Prelude.{◌≡◌, ◌⊎◌, ℕ, ◌≤◌, ◌<◌, nat_lt, nat_le, Bool, true, ◌&&◌, List, [], ◌∷◌, ◌++◌, length, Option, Some, None, if◌then◌else◌}
use Rattle.std.specs.List.{All, list_all, flat_map}
use Rattle.std.specs.Int.{w64, cast_unsigned, to_be_bytes}
use Rattle.keybytes.specs.Cells.{IsCell, is_short, fits, fits_kind}
use Rattle.keybytes.specs.declared.cell.Cell.{Cell}
use Rattle.keybytes.specs.declared.cell.Cell.TheVariants.{Null, Int, Text, Flag}
use Rattle.keybytes.specs.declared.kind.Kind.{Kind}
use Rattle.keybytes.specs.declared.kind.Kind.TheVariants.{Text as TextKind}
use Rattle.keybytes.specs.declared.fault.Fault.{Fault}
use Rattle.keybytes.specs.declared.fault.Fault.TheVariants.{RowShape, TextTooLong, Memory}

-- a row has 1 to 12 cells, each of which a row may hold
pub record IsRow (cells : List Cell) : Type 0 where
  pub some : 0 < length cells
  pub few : length cells ≤ 12
  pub each : All IsCell cells

-- whether there are as many cells as a row may have
abbrev pub has_row_length : List Cell → Bool
has_row_length cells = nat_lt 0 (length cells) && nat_le (length cells) 12

-- why these cells make no row: their number is looked at before their texts
abbrev pub row_refusal : List Cell → Option Fault
row_refusal cells =
    if has_row_length cells then (if list_all is_short cells then None else Some TextTooLong) else Some RowShape

-- why a table of these columns takes no such row
abbrev pub shape_refusal : List Kind → List Cell → Option Fault
shape_refusal kinds cells = if fits kinds cells then None else Some RowShape

-- the bytes of a cell in a row: a tag, and what follows it
abbrev pub cell_bytes : Cell → List ℕ
cell_bytes Null = 0 ∷ []
cell_bytes (Int number) = 1 ∷ to_be_bytes w64 (cast_unsigned w64 number)
cell_bytes (Text bytes) = 1 ∷ length bytes ∷ bytes
cell_bytes (Flag flag) = 1 ∷ (if flag then 1 else 0) ∷ []

-- the bytes of a row: its cells', one after the other
abbrev pub row_bytes : List Cell → List ℕ
row_bytes cells = flat_map cell_bytes cells

-- the bytes begin with those of a cell that a column of that kind takes
pub record BeginsWith (kind : Kind) (bytes : List ℕ) (cell : Cell) (rest : List ℕ) : Type 0 where
  pub held : IsCell cell
  pub fitting : fits_kind kind cell ≡ true
  pub bytes_are : bytes ≡ cell_bytes cell ++ rest

-- the bytes spell the cells of these columns
pub record Spells (kinds : List Kind) (bytes : List ℕ) (cells : List Cell) : Type 0 where
  pub held : All IsCell cells
  pub fitting : fits kinds cells ≡ true
  pub bytes_are : bytes ≡ row_bytes cells

-- the bytes begin with a text's tag and a length above 100
pub record BeginsTooLong (bytes : List ℕ) : Type 0 where
  pub len : ℕ
  pub rest : List ℕ
  pub bytes_are : bytes ≡ 1 ∷ len ∷ rest
  pub above : 100 < len

-- no cell of a column of that kind is read there: the bytes begin with a text that is too long, or with no cell at all
pub record RefusesCell (kind : Kind) (bytes : List ℕ) (fault : Fault) : Type 0 where
  pub none : (cell : Cell) (rest : List ℕ) → BeginsWith kind bytes cell rest → ⊥
  pub why :
      ((fault ≡ TextTooLong) × (kind ≡ TextKind) × BeginsTooLong bytes)
      ⊎ ((fault ≡ RowShape) × ((kind ≡ TextKind) → BeginsTooLong bytes → ⊥))

-- from the left, the bytes leave the spelling of these columns first at a text that is too long
abbrev pub LeavesAtLongText : List Kind → List ℕ → Type 0
LeavesAtLongText [] bytes = ⊥
LeavesAtLongText (kind ∷ kinds) bytes =
    ((kind ≡ TextKind) × BeginsTooLong bytes)
    ⊎ ((cell : Cell) × (rest : List ℕ) × BeginsWith kind bytes cell rest × LeavesAtLongText kinds rest)

-- the bytes spell no row of these columns, and leave the spelling first at a text that is too long, or elsewhere
pub record RefusesRow (kinds : List Kind) (bytes : List ℕ) (fault : Fault) : Type 0 where
  pub none : (cells : List Cell) → Spells kinds bytes cells → ⊥
  pub why :
      ((fault ≡ TextTooLong) × LeavesAtLongText kinds bytes)
      ⊎ ((fault ≡ RowShape) × (LeavesAtLongText kinds bytes → ⊥))

-- reading the bytes as a row is refused: they spell none, or they do and memory is wanting
abbrev pub RefusesReading : List Kind → List ℕ → Fault → Type 0
RefusesReading kinds bytes fault =
    RefusesRow kinds bytes fault ⊎ ((fault ≡ Memory) × (cells : List Cell) × Spells kinds bytes cells)

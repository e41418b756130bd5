-- The key of an index: which columns make it and which rows have one, its bytes, and how the bytes stand for the columns.
use Rattle.std.specs.Prelude.{◌≡◌, ℕ, zero, suc, ◌+◌, ◌-◌, ◌^◌, nat_eq, nat_lt, nat_le, Bool, true, false, not, ◌&&◌, ℤ, pos, negsuc, List, [], ◌∷◌, ◌++◌, map, length}
use Rattle.std.specs.Prelude.{slice_index_or, IsUtf8, Option, Some, None, if◌then◌else◌}
use Rattle.std.specs.List.{All, list_any, list_all, flat_map}
use Rattle.std.specs.Int.{w64, to_be_bytes}
use Rattle.std.specs.Ordering.{nat_cmp}
use Rattle.std.specs.Cmp.Lexicographic.{slice_cmp}
use Rattle.keybytes.specs.Cells.{IsCell, fits, fits_kind, columns_cmp}
use Rattle.keybytes.specs.Conditions.{takes}
use Rattle.keybytes.specs.Rows.{IsRow}
use Rattle.keybytes.specs.declared.cell.Cell.{Cell}
use Rattle.keybytes.specs.declared.cell.Cell.TheVariants.{Null, Int, Text, Flag}
use Rattle.keybytes.specs.declared.key_col.KeyCol.{KeyCol}
use Rattle.keybytes.specs.declared.kind.Kind.{Kind}
use Rattle.keybytes.specs.declared.kind.Kind.TheVariants.{Int as IntKind}
use Rattle.keybytes.specs.declared.fault.Fault.{Fault}
use Rattle.keybytes.specs.declared.fault.Fault.TheVariants.{BadColumn}
use Rattle.keybytes.specs.declared.when.When.{When}

-- the kinds of a table's columns, which of the columns make the key, in order and each with its direction, whether two rows may not share one,
-- and the condition that a row has to meet, if the index is a partial one
pub record KeySpecValue : Type 0 where
  pub kinds : List Kind
  pub columns : List KeyCol
  pub unique : Bool
  pub condition : Option When

-- whether no column is named twice
abbrev pub are_distinct : List KeyCol → Bool
are_distinct [] = true
are_distinct (named ∷ columns) = not (list_any (λ other. nat_eq other.column named.column) columns) && are_distinct columns

-- whether the columns are of a table with these kinds
abbrev pub are_there : List Kind → List KeyCol → Bool
are_there kinds columns = list_all (λ named. nat_lt named.column (length kinds)) columns

-- whether there are as many columns as a key may have
abbrev pub has_key_length : List KeyCol → Bool
has_key_length columns = nat_lt 0 (length columns) && nat_le (length columns) 4

-- whether these make a key: 1 to 4 of the table's columns, each once
abbrev pub are_key_columns : List Kind → List KeyCol → Bool
are_key_columns kinds columns = has_key_length columns && (are_distinct columns && are_there kinds columns)

-- why a table of these kinds has no key of these columns
abbrev pub key_columns_refusal : List Kind → List KeyCol → Option Fault
key_columns_refusal kinds columns = if are_key_columns kinds columns then None else Some BadColumn

-- the number moved up by 2^63, so that the least of 64 bits is 0
abbrev pub raised_number : ℤ → ℕ
raised_number (pos n) = 2 ^ 63 + n
raised_number (negsuc n) = 2 ^ 63 - 1 - n

-- a byte of a text in a key: a byte 0 is followed by 255
abbrev pub escaped_byte : ℕ → List ℕ
escaped_byte zero = 0 ∷ 255 ∷ []
escaped_byte (suc n) = suc n ∷ []

-- the bytes of a text in a key: its own, and the end
abbrev pub text_key : List ℕ → List ℕ
text_key bytes = flat_map escaped_byte bytes ++ 0 ∷ 1 ∷ []

-- the bytes of a cell in a key: a tag, and what follows it
abbrev pub cell_key : Cell → List ℕ
cell_key Null = 0 ∷ []
cell_key (Int number) = 1 ∷ to_be_bytes w64 (raised_number number)
cell_key (Text bytes) = 1 ∷ text_key bytes
cell_key (Flag flag) = 1 ∷ (if flag then 1 else 0) ∷ []

-- a byte with each of its bits flipped
abbrev pub complement : ℕ → ℕ
complement byte = 255 - byte

-- the bytes of a column in a key: those of its cell, each complemented where the column descends
abbrev pub column_key : Bool → Cell → List ℕ
column_key false cell = cell_key cell
column_key true cell = map complement (cell_key cell)

-- the bytes of a key: its columns', one after the other
abbrev pub key_bytes : List KeyCol → List Cell → List ℕ
key_bytes [] cells = []
key_bytes (column ∷ columns) [] = []
key_bytes (column ∷ columns) (cell ∷ cells) = column_key column.descending cell ++ key_bytes columns cells

-- the kinds of the key's columns, in order
abbrev pub key_kinds : KeySpecValue → List Kind
key_kinds spec = map (λ named. slice_index_or spec.kinds named.column IntKind) spec.columns

-- the key's columns of a row, in order
abbrev pub key_columns : KeySpecValue → List Cell → List Cell
key_columns spec row = map (λ named. slice_index_or row named.column Null) spec.columns

-- the key that a row's columns make, whether or not the index takes the row
abbrev pub key_of : KeySpecValue → List Cell → List ℕ
key_of spec row = key_bytes spec.columns (key_columns spec row)

-- the key that the index has of a row; of a row that it doesn't take it has none
abbrev pub indexed_key : KeySpecValue → List Cell → Option (List ℕ)
indexed_key spec row = if takes spec.condition row then Some (key_of spec row) else None

-- the key that the index has of what stands at a RID: of no row it has none
abbrev pub key_there : KeySpecValue → Option (List Cell) → Option (List ℕ)
key_there spec None = None
key_there spec (Some row) = indexed_key spec row

-- the cells fit the key's kinds, a row may hold each, and these are their bytes
pub record HasKey (spec : KeySpecValue) (key : List ℕ) (cells : List Cell) : Type 0 where
  pub fits_kinds : fits (key_kinds spec) cells ≡ true
  pub each : All IsCell cells
  pub bytes : key_bytes spec.columns cells ≡ key

-- a row of the table that the key is about
pub record IsRowOf (spec : KeySpecValue) (row : List Cell) : Type 0 where
  pub is_row : IsRow row
  pub fits_kinds : fits spec.kinds row ≡ true

-- the columns of a row of the table make this key, whether or not the index takes the row
abbrev pub IsKeyOf : KeySpecValue → List ℕ → Type 0
IsKeyOf spec key = (row : List Cell) × (IsRowOf spec row × (key_of spec row ≡ key))

-- how what a row's columns make stands to what any other row's columns make
pub record StandsForColumns (spec : KeySpecValue) (row : List Cell) (key : List ℕ) : Type 0 where
  -- the bytes compare as the columns do
  pub order : (other : List Cell) → IsRowOf spec other
      → slice_cmp nat_cmp key (key_of spec other) ≡ columns_cmp spec.columns (key_columns spec row) (key_columns spec other)
  -- one key, one list of columns
  pub tells_apart : (other : List Cell) → IsRowOf spec other → key_of spec other ≡ key → key_columns spec other ≡ key_columns spec row
  -- a key that begins another is that other
  pub no_front : (other : List Cell) (rest : List ℕ) → IsRowOf spec other → key_of spec other ≡ key ++ rest → key_of spec other ≡ key

-- the bytes begin with the key of a cell that a column of that kind takes
pub record BeginsWithCellKey (kind : Kind) (cell : Cell) (rest bytes : List ℕ) : Type 0 where
  pub of_kind : fits_kind kind cell ≡ true
  pub valid : IsCell cell
  pub front : bytes ≡ cell_key cell ++ rest

-- the bytes begin with the key of a cell that a column of that kind and direction takes
pub record BeginsWithColumnKey (descending : Bool) (kind : Kind) (cell : Cell) (rest bytes : List ℕ) : Type 0 where
  pub of_kind : fits_kind kind cell ≡ true
  pub valid : IsCell cell
  pub front : bytes ≡ column_key descending cell ++ rest

-- the bytes begin with the key bytes of a text
pub record BeginsWithTextKey (text rest bytes : List ℕ) : Type 0 where
  pub utf8 : IsUtf8 text
  pub front : bytes ≡ text_key text ++ rest

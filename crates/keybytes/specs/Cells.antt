-- Cells: which ones a row may hold, which columns take them, and the order of a column's cells and of a key's columns.
use Rattle.std.specs.Prelude.{◌≤◌, nat_le, Bool, true, false, ◌&&◌, List, [], ◌∷◌, length, FitsSigned, IsUtf8}
use Rattle.std.specs.Int.{w64}
use Rattle.std.specs.declared.cmp.Ordering.{Ordering}
use Rattle.std.specs.declared.cmp.Ordering.TheVariants.{Less, Equal, Greater}
use Rattle.std.specs.Ordering.{nat_cmp, int_cmp, bool_cmp, ordering_then, ordering_reverse}
use Rattle.std.specs.Cmp.Lexicographic.{slice_cmp}
use Rattle.keybytes.specs.declared.cell.Cell.{Cell}
use Rattle.keybytes.specs.declared.cell.Cell.TheVariants.{Null, Int, Text, Flag}
use Rattle.keybytes.specs.declared.key_col.KeyCol.{KeyCol}
use Rattle.keybytes.specs.declared.kind.Kind.{Kind}
use Rattle.keybytes.specs.declared.kind.Kind.TheVariants.{Int as IntKind, Text as TextKind, Flag as FlagKind}

-- a cell that a row may hold: a number of 64 bits, a text of at most 100 bytes
abbrev pub IsCell : Cell → Type 0
IsCell Null = Unit {0}
IsCell (Int number) = FitsSigned w64 number
IsCell (Text bytes) = IsUtf8 bytes × (length bytes ≤ 100)
IsCell (Flag flag) = Unit {0}

-- whether a row may hold the cell's text, if it has one
abbrev pub is_short : Cell → Bool
is_short Null = true
is_short (Int number) = true
is_short (Text bytes) = nat_le (length bytes) 100
is_short (Flag flag) = true

-- whether a column of that kind takes the cell; every column takes Null
abbrev pub fits_kind : Kind → Cell → Bool
fits_kind kind Null = true
fits_kind IntKind (Int number) = true
fits_kind IntKind (Text bytes) = false
fits_kind IntKind (Flag flag) = false
fits_kind TextKind (Int number) = false
fits_kind TextKind (Text bytes) = true
fits_kind TextKind (Flag flag) = false
fits_kind FlagKind (Int number) = false
fits_kind FlagKind (Text bytes) = false
fits_kind FlagKind (Flag flag) = true

-- whether the cells are as many as the columns, and each of its column's kind
abbrev pub fits : List Kind → List Cell → Bool
fits [] [] = true
fits [] (cell ∷ cells) = false
fits (kind ∷ kinds) [] = false
fits (kind ∷ kinds) (cell ∷ cells) = fits_kind kind cell && fits kinds cells

-- the order of a column's cells: Null first, numbers by number, texts by bytes, false before true
abbrev pub cell_cmp : Cell → Cell → Ordering
cell_cmp Null Null = Equal
cell_cmp Null (Int n) = Less
cell_cmp Null (Text t) = Less
cell_cmp Null (Flag b) = Less
cell_cmp (Int m) Null = Greater
cell_cmp (Int m) (Int n) = int_cmp m n
cell_cmp (Int m) (Text t) = Less
cell_cmp (Int m) (Flag b) = Less
cell_cmp (Text s) Null = Greater
cell_cmp (Text s) (Int n) = Greater
cell_cmp (Text s) (Text t) = slice_cmp nat_cmp s t
cell_cmp (Text s) (Flag b) = Less
cell_cmp (Flag a) Null = Greater
cell_cmp (Flag a) (Int n) = Greater
cell_cmp (Flag a) (Text t) = Greater
cell_cmp (Flag a) (Flag b) = bool_cmp a b

-- an order, turned round where a column descends
abbrev pub directed : Bool → Ordering → Ordering
directed false order = order
directed true order = ordering_reverse order

-- the order of two lists of cells, one for each column of a key: by the first that differs, in its column's direction; a list that ends first is less
abbrev pub columns_cmp : List KeyCol → List Cell → List Cell → Ordering
columns_cmp [] xs ys = Equal
columns_cmp (column ∷ columns) [] [] = Equal
columns_cmp (column ∷ columns) [] (y ∷ ys) = Less
columns_cmp (column ∷ columns) (x ∷ xs) [] = Greater
columns_cmp (column ∷ columns) (x ∷ xs) (y ∷ ys) = ordering_then (directed column.descending (cell_cmp x y)) (columns_cmp columns xs ys)

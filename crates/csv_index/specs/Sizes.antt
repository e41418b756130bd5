-- How many bytes the cells of columns take in keys, and how many pages a spool is given by that.
use Rattle.std.specs.Prelude.{◌≡◌, ◌+◌, ◌-◌, ◌*◌, ◌/◌, ◌^◌, ℕ, max, min, nat_le, if◌then◌else◌, List, [], ◌∷◌, ◌++◌, length, map, slice_index_or}
use Rattle.std.specs.Int.{div_ceil}
use Rattle.std.specs.List.{range_with_len, sum_by}
use Rattle.keybytes.specs.Keys.{cell_key}
use Rattle.keybytes.specs.declared.cell.Cell.{Cell}
use Rattle.keybytes.specs.declared.cell.Cell.TheVariants.{Null}
use Rattle.keybytes.specs.declared.key_col.KeyCol.{KeyCol}
use Rattle.csv_index.specs.declared.table.key_sizes.KeySizes.{KeySizes}

-- a number, as far as 64 bits can count
abbrev pub counted : ℕ → ℕ
counted n = min n (2 ^ 64 - 1)

-- the greatest of some numbers
abbrev pub greatest : List ℕ → ℕ
greatest [] = 0
greatest (n ∷ numbers) = max n (greatest numbers)

-- the bytes that a cell takes in a key
abbrev pub key_size : Cell → ℕ
key_size cell = length (cell_key cell)

-- the sizes of cells: of all together, and of the longest
abbrev pub sizes_of_cells : List Cell → KeySizes
sizes_of_cells cells = record { bytes = counted (sum_by key_size cells); longest = counted (greatest (map key_size cells)) }

-- the cells of a column
abbrev pub column_cells : List (List Cell) → ℕ → List Cell
column_cells rows place = map (λ row. slice_index_or row place Null) rows

-- of each of so many columns these are the sizes of its cells
abbrev pub HaveSizes : ℕ → List (List Cell) → List KeySizes → Type 0
HaveSizes columns rows sizes = sizes ≡ map (λ place. sizes_of_cells (column_cells rows place)) (range_with_len 0 columns)

-- sizes of the cells of some rows become those of one row more
abbrev pub AddsRow : List Cell → List KeySizes → List KeySizes → Type 0
AddsRow row before after = (rows : List (List Cell)) → HaveSizes (length row) rows before → HaveSizes (length row) (rows ++ row ∷ []) after

-- the sizes of no cells
abbrev pub no_sizes : KeySizes
no_sizes = record { bytes = 0; longest = 0 }

-- the sizes of the column that a key takes
abbrev pub sizes_at : List KeySizes → KeyCol → KeySizes
sizes_at sizes column = slice_index_or sizes column.column no_sizes

-- the sizes of keys of these columns: of each the sum
abbrev pub keys_sizes : List KeySizes → List KeyCol → KeySizes
keys_sizes sizes columns = record {
  bytes = counted (sum_by (λ column. (sizes_at sizes column).bytes) columns);
  longest = counted (sum_by (λ column. (sizes_at sizes column).longest) columns);
}

-- the bytes of so many pairs: those of their keys, and 8 of each beside
abbrev pub pair_bytes : ℕ → KeySizes → ℕ
pair_bytes rows sizes = counted (sizes.bytes + rows * 8)

-- the bytes of a page of 4096 that are full before it has no room for the longest pair
abbrev pub bytes_of_page : KeySizes → ℕ
bytes_of_page sizes = 4096 - 8 - min sizes.longest 812

-- the pages that so many pairs take at most: those of their bytes, and one for each full run of 4096 pairs, since the next begins a page
abbrev pub pages_of : ℕ → KeySizes → ℕ
pages_of rows sizes = counted (div_ceil (pair_bytes rows sizes) (bytes_of_page sizes) + rows / 4096)

-- how many parts all pairs are dealt into: one, where so many spools may have room for all, else one for four workers
abbrev pub parts_of : ℕ → ℕ → ℕ → ℕ
parts_of pages workers spools = if nat_le (pages * spools) 65536 then 1 else max (div_ceil workers 4) 1

-- the pages of each of so many spools: those of a part and 8 beside, and 16777216 at most
abbrev pub quota_of : ℕ → ℕ → ℕ → ℕ
quota_of pages workers spools = min (pages / parts_of pages workers spools + 8) 16777216

-- How the sizes of cells grow.
use Rattle.std.proofs.Common.{◌≡◌, ℕ, zero, suc, ◌+◌, ◌<◌, ◌==◌, max, Bool, false, List, [], ◌∷◌, ◌++◌, map, length, get_or, slice_index_or, refl, ap, ap₂, ◌∙◌, arith, length-append, replicate}
use Rattle.std.specs.Prelude.{count_by, if◌then◌else◌}
use Rattle.std.specs.List.{flat_map}
use Rattle.std.proofs.lemmas.Bool.{ne_eqb}
use Rattle.std.proofs.lemmas.List.{get_or-replicate, length-replicate, map_push}
use Rattle.std.proofs.lemmas.List.FromFn.{fill_by_all, get_or-map-range_with_len, length-map-range_with_len}
use Rattle.std.proofs.lemmas.List.Sums.{sum_by-append, sum_by-cons}
use Rattle.keybytes.specs.Keys.{escaped_byte}
use Rattle.keybytes.specs.declared.cell.Cell.{Cell}
use Rattle.keybytes.specs.declared.cell.Cell.TheVariants.{Null, Text}
use Rattle.csv_index.specs.Sizes.{HaveSizes, column_cells, counted, greatest, key_size, no_sizes, sizes_of_cells}
use Rattle.csv_index.specs.declared.table.key_sizes.KeySizes.{KeySizes}

zeros-cons : (byte : ℕ) (bytes : List ℕ) → count_by (λ byte. byte == 0) (byte ∷ bytes) ≡ (if byte == 0 then 1 else 0) + count_by (λ byte. byte == 0) bytes
zeros-cons byte bytes = sum_by-cons (λ (byte : ℕ). if byte == 0 then 1 else 0) byte bytes

escaped_length : (bytes : List ℕ) → length (flat_map escaped_byte bytes) ≡ length bytes + count_by (λ byte. byte == 0) bytes
escaped_length [] = refl
escaped_length (zero ∷ bytes) = let rest = escaped_length bytes in let more = zeros-cons zero bytes in omega (arith, rest, more)
escaped_length (suc byte ∷ bytes) =
    let rest = escaped_length bytes in
    let some : (suc byte == 0) ≡ false = ne_eqb (suc byte) 0 (λ none. omega (arith, none)) in
    let more = zeros-cons (suc byte) bytes ∙ ap (λ (is : Bool). (if is then 1 else 0) + count_by (λ byte. byte == 0) bytes) some in
    omega (arith, rest, more)

pub text_size : (bytes : List ℕ) → key_size (Text bytes) ≡ length bytes + count_by (λ byte. byte == 0) bytes + 3
text_size bytes = omega (arith, length-append (flat_map escaped_byte bytes) (0 ∷ 1 ∷ []), escaped_length bytes)

pub same_sizes : (a b : KeySizes) → a.bytes ≡ b.bytes → a.longest ≡ b.longest → a ≡ b
same_sizes a b bytes longest = let make : ℕ → ℕ → KeySizes = λ m n. record { bytes = m; longest = n } in ap₂ make bytes longest

greatest_more : (numbers : List ℕ) (n : ℕ) → greatest (numbers ++ n ∷ []) ≡ max (greatest numbers) n
greatest_more [] n = omega arith
greatest_more (m ∷ numbers) n = let rest = greatest_more numbers n in omega (arith, rest)

-- the sizes with a cell more
pub sizes_more : (cells : List Cell) (cell : Cell) (old new : KeySizes) (size : ℕ) → size ≡ counted (key_size cell) → old ≡ sizes_of_cells cells
    → new.bytes ≡ counted (old.bytes + size) → new.longest ≡ max old.longest size → new ≡ sizes_of_cells (cells ++ cell ∷ [])
sizes_more cells cell old new size is was bytes longest =
    let sum = sum_by-append key_size cells (cell ∷ []) in
    let great : greatest (map key_size (cells ++ cell ∷ [])) ≡ max (greatest (map key_size cells)) (key_size cell) =
    ap greatest (map_push key_size cells cell) ∙ greatest_more (map key_size cells) (key_size cell) in
    let was_bytes = ap (λ (x : KeySizes). x.bytes) was in
    let was_longest = ap (λ (x : KeySizes). x.longest) was in
    same_sizes new (sizes_of_cells (cells ++ cell ∷ [])) (omega (arith, sum, was_bytes, bytes, is)) (omega (arith, great, was_longest, longest, is))

pub column_more : (rows : List (List Cell)) (row : List Cell) (place : ℕ)
    → column_cells (rows ++ row ∷ []) place ≡ column_cells rows place ++ slice_index_or row place Null ∷ []
column_more rows row place = map_push (λ (cells : List Cell). slice_index_or cells place Null) rows row

-- between the sizes of columns and those of each
pub columns_count : (n : ℕ) (rows : List (List Cell)) (sizes : List KeySizes) → HaveSizes n rows sizes → length sizes ≡ n
columns_count n rows sizes have = ap length have ∙ length-map-range_with_len (λ place. sizes_of_cells (column_cells rows place)) 0 n

pub column_sizes : (n : ℕ) (rows : List (List Cell)) (sizes : List KeySizes) (place : ℕ) → HaveSizes n rows sizes → place < n
    → get_or sizes place no_sizes ≡ sizes_of_cells (column_cells rows place)
column_sizes n rows sizes place have below =
    ap (λ (xs : List KeySizes). get_or xs place no_sizes) have
    ∙ get_or-map-range_with_len (λ place. sizes_of_cells (column_cells rows place)) 0 n place place no_sizes below (omega arith)

pub have_sizes : (n : ℕ) (rows : List (List Cell)) (sizes : List KeySizes) → length sizes ≡ n
    → ((place : ℕ) → place < n → get_or sizes place no_sizes ≡ sizes_of_cells (column_cells rows place)) → HaveSizes n rows sizes
have_sizes n rows sizes count each = fill_by_all (λ place. sizes_of_cells (column_cells rows place)) sizes n no_sizes count each

-- the sizes of no rows
pub have_none : (n : ℕ) (sizes : List KeySizes) → sizes ≡ replicate n no_sizes → HaveSizes n [] sizes
have_none n sizes are =
    have_sizes n [] sizes (ap length are ∙ length-replicate n no_sizes) (λ place below.
    ap (λ (xs : List KeySizes). get_or xs place no_sizes) are ∙ get_or-replicate n place no_sizes no_sizes below)

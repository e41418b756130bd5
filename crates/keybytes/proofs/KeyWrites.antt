-- How a key grows while its columns are written.
use Rattle.std.proofs.Common.{◌≡◌, ℕ, zero, suc, ◌+◌, ◌<◌, ◌≤◌, nat_lt, true, List, [], ◌∷◌, ◌++◌, map, length, take, drop, get_or, slice_index_or, refl, sym, ap}
use Rattle.std.proofs.Common.{ap₂, ◌∙◌, arith, length-append, lit≤}
use Rattle.std.specs.List.{All, flat_map}
use Rattle.std.proofs.lemmas.Bool.{and_parts, ltb-true, leb-true}
use Rattle.std.proofs.lemmas.List.{get_or-map, length-map, take_more, drop_more, flat_map_more, get_or_read}
use Rattle.std.proofs.lemmas.List.Folds.{length-flat_map-take}
use Rattle.keybytes.specs.Cells.{IsCell}
use Rattle.keybytes.specs.Keys.{KeySpecValue, are_there, are_key_columns, has_key_length, escaped_byte, text_key, column_key, key_bytes, key_columns, key_of}
use Rattle.keybytes.specs.declared.cell.Cell.{Cell}
use Rattle.keybytes.specs.declared.cell.Cell.TheVariants.{Null}
use Rattle.keybytes.specs.declared.key_col.KeyCol.{KeyCol}
use Rattle.keybytes.specs.declared.kind.Kind.{Kind}
use Rattle.keybytes.specs.declared.kind.Kind.TheVariants.{Int as IntKind}
use Rattle.keybytes.proofs.KeyLaws.{there-part, picked-cells, length-key_bytes}

-- ---- a text

length-escaped_byte-some : (b : ℕ) → 1 ≤ length (escaped_byte b)
length-escaped_byte-some zero = lit≤ tt
length-escaped_byte-some (suc b) = lit≤ tt

-- the room that is left for a byte of the text and its end
byte-room : (old key text : List ℕ) (i : ℕ) → key ≡ old ++ flat_map escaped_byte (take i text) → i < length text
    → length key + length (escaped_byte (get_or text i 0)) + 2 ≤ length old + length (text_key text)
byte-room old key text i written within =
    omega (
      arith,
      ap length written,
      length-append old (flat_map escaped_byte (take i text)),
      length-append (flat_map escaped_byte text) (0 ∷ 1 ∷ []),
      length-flat_map-take escaped_byte text i 0 within,
    )

pub zero-room : (old key text : List ℕ) (i : ℕ) → key ≡ old ++ flat_map escaped_byte (take i text) → i < length text → get_or text i 0 ≡ 0
    → length key + 2 ≤ length old + length (text_key text)
zero-room old key text i written within is_zero =
    let two : length (escaped_byte (get_or text i 0)) ≡ 2 = ap (λ (b : ℕ). length (escaped_byte b)) is_zero in
    omega (arith, byte-room old key text i written within)

pub other-room : (old key text : List ℕ) (i : ℕ) → key ≡ old ++ flat_map escaped_byte (take i text) → i < length text
    → length key + 1 ≤ length old + length (text_key text)
other-room old key text i written within =
    omega (arith, byte-room old key text i written within, length-escaped_byte-some (get_or text i 0))

-- ---- the columns

there-at : (kinds : List Kind) (columns : List KeyCol) (i : ℕ) (d : KeyCol) → are_there kinds columns ≡ true → i < length columns
    → (get_or columns i d).column < length kinds
there-at kinds [] i d there within = absurd (omega arith)
there-at kinds (named ∷ columns) zero d there within =
    ltb-true named.column (length kinds) (and_parts (nat_lt named.column (length kinds)) (are_there kinds columns) there).0
there-at kinds (named ∷ columns) (suc i) d there within =
    there-at kinds columns i d (and_parts (nat_lt named.column (length kinds)) (are_there kinds columns) there).1 (omega arith)

-- a key's column is one of the table's
pub column-within : (kinds : List Kind) (columns : List KeyCol) (i : ℕ) (d : KeyCol) → are_key_columns kinds columns ≡ true → i < length columns
    → (get_or columns i d).column < length kinds
column-within kinds columns i d held within = there-at kinds columns i d (there-part kinds columns held) within

few-columns : (kinds : List Kind) (columns : List KeyCol) → are_key_columns kinds columns ≡ true → length columns ≤ 4
few-columns kinds columns held =
    leb-true (length columns) 4 (and_parts (nat_lt 0 (length columns)) _ (and_parts (has_key_length columns) _ held).0).1

pub length-key_of : (spec : KeySpecValue) (row : List Cell) → are_key_columns spec.kinds spec.columns ≡ true → All IsCell row → length (key_of spec row) ≤ 812
length-key_of spec row held each =
    omega (
      arith,
      length-key_bytes spec.columns (key_columns spec row) (picked-cells row spec.columns each),
      few-columns spec.kinds spec.columns held,
    )

-- the bytes of a column of a row
abbrev pub part : List Cell → KeyCol → List ℕ
part row named = column_key named.descending (slice_index_or row named.column Null)

-- a row's key is its columns' bytes, one after the other
pub key-parts : (row : List Cell) (columns : List KeyCol) → flat_map (part row) columns
    ≡ key_bytes columns (map (λ named. slice_index_or row named.column Null) columns)
key-parts row [] = refl
key-parts row (named ∷ columns) = ap (λ (xs : List ℕ). part row named ++ xs) (key-parts row columns)

-- one more column is written
pub column-more : (row : List Cell) (columns : List KeyCol) (i : ℕ) (d : KeyCol) (key : List ℕ) (cell : Cell)
    → key ≡ flat_map (part row) (take i columns) → i < length columns → (get_or columns i d).column < length row
    → cell ≡ get_or row (get_or columns i d).column cell
    → key ++ column_key (get_or columns i d).descending cell ≡ flat_map (part row) (take (i + 1) columns)
column-more row columns i d key cell written within there is_cell =
    let named = get_or columns i d in
    let same : cell ≡ slice_index_or row named.column Null = get_or_read row named.column cell there is_cell Null in
    ap₂ (λ (xs : List ℕ) (x : Cell). xs ++ column_key named.descending x) written same
    ∙ flat_map_more (part row) [] (take i columns) named
    ∙ ap (flat_map (part row)) (sym (take_more columns i d within))

pub column-room : (row : List Cell) (columns : List KeyCol) (i : ℕ) (d : KeyCol) (key : List ℕ) (cell : Cell)
    → key ≡ flat_map (part row) (take i columns) → i < length columns → (get_or columns i d).column < length row
    → cell ≡ get_or row (get_or columns i d).column cell → length key + length (column_key (get_or columns i d).descending cell) ≤ length (flat_map (part row) columns)
column-room row columns i d key cell written within there is_cell =
    let named = get_or columns i d in
    let same : cell ≡ slice_index_or row named.column Null = get_or_read row named.column cell there is_cell Null in
    omega (
      arith,
      ap length written,
      ap (λ (x : Cell). length (column_key named.descending x)) same,
      length-flat_map-take (part row) columns i d within,
    )

-- ---- the kinds

pub kinds-more : (kinds : List Kind) (columns : List KeyCol) (i : ℕ) (d : KeyCol) → i < length columns
    → drop i (map (λ named. slice_index_or kinds named.column IntKind) columns)
    ≡ slice_index_or kinds (get_or columns i d).column IntKind ∷ drop (i + 1) (map (λ named. slice_index_or kinds named.column IntKind) columns)
kinds-more kinds columns i d within =
    let f : KeyCol → Kind = λ named. slice_index_or kinds named.column IntKind in
    drop_more (map f columns) i IntKind (rw (length-map columns f) within)
    ∙ ap (λ (kind : Kind). kind ∷ drop (i + 1) (map f columns)) (get_or-map f columns i d IntKind within)

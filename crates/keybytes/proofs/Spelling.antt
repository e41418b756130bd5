-- Rows, the columns that they fit, and their bytes.
use Rattle.std.proofs.Common.{◌≡◌, ℕ, ℤ, FitsSigned, suc, ◌+◌, ◌*◌, ◌^◌, ◌<◌, ◌≤◌, true, ◌&&◌, List, [], ◌∷◌, ◌++◌, length, get_or, drop, refl, ap, sym, ◌∙◌}
use Rattle.std.proofs.Common.{arith, length-append, drop-cons, add-one}
use Rattle.std.specs.List.{All}
use Rattle.std.proofs.lemmas.List.Elements.{All-head, All-tail}
use Rattle.byteorder.specs.Numbers.{length-bytes_high_first}
use Rattle.std.specs.Int.{w64, cast_unsigned, cast_signed, to_be_bytes, from_be_bytes}
use Rattle.std.proofs.lemmas.Bool.{and_parts}
use Rattle.std.proofs.lemmas.Int.{of_z-to_z}
use Rattle.std.proofs.lemmas.Nat.{be_bytes_8}
use Rattle.keybytes.specs.Cells.{IsCell, fits, fits_kind}
use Rattle.keybytes.specs.Rows.{cell_bytes, row_bytes, BeginsWith}
use Rattle.keybytes.specs.declared.cell.Cell.{Cell}
use Rattle.keybytes.specs.declared.cell.Cell.TheVariants.{Null, Int, Text, Flag}
use Rattle.keybytes.specs.declared.kind.Kind.{Kind}
use Rattle.keybytes.specs.declared.kind.Kind.TheVariants.{Int as IntKind}

-- cells that fit are as many as the columns
pub length-fits : (kinds : List Kind) (cells : List Cell) → fits kinds cells ≡ true → length kinds ≡ length cells
length-fits [] [] fit = refl
length-fits [] (cell ∷ cells) fit = cc
length-fits (kind ∷ kinds) [] fit = cc
length-fits (kind ∷ kinds) (cell ∷ cells) fit =
    ap suc (length-fits kinds cells (and_parts (fits_kind kind cell) (fits kinds cells) fit).1)

-- the columns from place i on
pub fits-drop :
    (kinds : List Kind) (cells : List Cell) (i : ℕ) (kind : Kind) (cell : Cell) → i < length kinds → i < length cells
    → fits (drop i kinds) (drop i cells)
    ≡ (fits_kind (get_or kinds i kind) (get_or cells i cell) && fits (drop (i + 1) kinds) (drop (i + 1) cells))
fits-drop kinds cells i kind cell in_kinds in_cells =
    rw (add-one, drop-cons kinds i kind, drop-cons cells i cell) refl

-- a cell's bytes
pub length-cell_bytes : (cell : Cell) → IsCell cell → (0 < length (cell_bytes cell)) × (length (cell_bytes cell) ≤ 102)
length-cell_bytes Null held = (omega arith, omega arith)
length-cell_bytes (Int number) held =
    let eight = length-bytes_high_first 8 (cast_unsigned w64 number) in (omega (arith, eight), omega (arith, eight))
length-cell_bytes (Text bytes) held = (omega arith, omega (arith, held.1))
length-cell_bytes (Flag flag) held = (omega arith, omega arith)

-- a row's bytes
pub length-row_bytes :
    (cells : List Cell) → All IsCell cells
    → (length cells ≤ length (row_bytes cells)) × (length (row_bytes cells) ≤ 102 * length cells)
length-row_bytes [] held = (omega arith, omega arith)
length-row_bytes (cell ∷ cells) held =
    let one = length-cell_bytes cell (All-head IsCell cell cells held) in
    let more = length-row_bytes cells (All-tail IsCell cell cells held) in
    let both = length-append (cell_bytes cell) (row_bytes cells) in
    (omega (arith, one.0, more.0, both), omega (arith, one.1, more.1, both))

-- eight bytes behind a tag, read as a number
pub begins_with_int :
    (rest digits after : List ℕ) (n : ℕ) (z : ℤ) → length digits ≡ 8 → ((i : ℕ) → get_or digits i 0 < 256)
    → rest ≡ digits ++ after → n ≡ from_be_bytes w64 digits → n < 2 ^ 64 → z ≡ cast_signed w64 n → FitsSigned w64 z
    → BeginsWith IntKind (1 ∷ rest) (Int z) after
begins_with_int rest digits after n z eight below split is_n in_range is_z fitting =
    let bits : cast_unsigned w64 z ≡ n = ap (cast_unsigned w64) is_z ∙ of_z-to_z w64 n in_range in
    let bytes : to_be_bytes w64 n ≡ digits = be_bytes_8 digits n eight below is_n in
    record {
      held = fitting;
      fitting = refl;
      bytes_are =
          ap (λ (xs : List ℕ). 1 ∷ xs) split
          ∙ (ap (λ (xs : List ℕ). 1 ∷ (xs ++ after)) (sym bytes)
          ∙ ap (λ (m : ℕ). 1 ∷ (to_be_bytes w64 m ++ after)) (sym bits));
    }

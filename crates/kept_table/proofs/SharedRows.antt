-- The cells that a key spells make a row by themselves.
use Rattle.std.proofs.Common.{◌≡◌, ℕ, true, ◌&&◌, List, length, None, refl, arith}
use Rattle.std.specs.List.{list_all}
use Rattle.std.proofs.lemmas.Bool.{and_parts}
use Rattle.std.proofs.lemmas.Bool.Decides.{nat_tests}
use Rattle.std.proofs.lemmas.List.{length-map}
use Rattle.keybytes.specs.Cells.{is_short}
use Rattle.keybytes.specs.Keys.{KeySpecValue, HasKey, are_key_columns, has_key_length, are_distinct, are_there, key_kinds}
use Rattle.keybytes.specs.Rows.{row_refusal, has_row_length}
use Rattle.keybytes.specs.declared.cell.Cell.{Cell}
use Rattle.keybytes.proofs.RowFacts.{list_all-IsCell}
use Rattle.keybytes.proofs.Spelling.{length-fits}

-- as many cells as a key has columns are as many as a row may have
has_row_length-key : (spec : KeySpecValue) (cells : List Cell) → length cells ≡ length spec.columns
    → has_key_length spec.columns ≡ true → has_row_length cells ≡ true
has_row_length-key spec cells many counted = grind (arith, nat_tests, many, counted)

-- nothing refuses the cells of a key as a row
pub row_refusal-HasKey : (spec : KeySpecValue) (key : List ℕ) (cells : List Cell)
    → HasKey spec key cells → are_key_columns spec.kinds spec.columns ≡ true → row_refusal cells ≡ None
row_refusal-HasKey spec key cells held are_columns =
    let parts = and_parts (has_key_length spec.columns) (are_distinct spec.columns && are_there spec.kinds spec.columns) are_columns in
    let one_each : length (key_kinds spec) ≡ length spec.columns = simp length-map in
    let fitting : length (key_kinds spec) ≡ length cells = length-fits (key_kinds spec) cells held.fits_kinds in
    let many : length cells ≡ length spec.columns = cc in
    let counted : has_row_length cells ≡ true = has_row_length-key spec cells many parts.0 in
    let all_short : list_all is_short cells ≡ true = list_all-IsCell cells held.each in
    rw (counted, all_short) refl

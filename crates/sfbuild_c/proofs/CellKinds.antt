-- Columns that take the cells of a row, one for each.
use Rattle.std.proofs.Common.{◌≡◌, true, List, [], ◌∷◌, ◌++◌, length, None, refl, arith}
use Rattle.std.proofs.lemmas.Bool.{and_parts}
use Rattle.keybytes.specs.Cells.{fits, fits_kind}
use Rattle.keybytes.specs.Rows.{row_refusal}
use Rattle.keybytes.specs.Schemas.{columns_refusal}
use Rattle.keybytes.specs.declared.cell.Cell.{Cell}
use Rattle.keybytes.specs.declared.kind.Kind.{Kind}
use Rattle.keybytes.proofs.Spelling.{length-fits}

-- one more column, and one more cell that it takes
pub fits-more :
    (kinds : List Kind) (cells : List Cell) (kind : Kind) (cell : Cell) → fits kinds cells ≡ true → fits_kind kind cell ≡ true
    → fits (kinds ++ kind ∷ []) (cells ++ cell ∷ []) ≡ true
fits-more [] [] kind cell fit here = rw here refl
fits-more [] (other ∷ cells) kind cell fit here = cc
fits-more (first ∷ kinds) [] kind cell fit here = cc
fits-more (first ∷ kinds) (other ∷ cells) kind cell fit here =
    let parts = and_parts (fits_kind first other) (fits kinds cells) fit in
    rw parts.0 (fits-more kinds cells kind cell parts.1 here)

-- as many columns as a row has cells are the columns of a table
pub columns_refusal-fits :
    (kinds : List Kind) (cells : List Cell) → fits kinds cells ≡ true → row_refusal cells ≡ None → columns_refusal kinds ≡ None
columns_refusal-fits kinds cells fit is_row =
    let many : length kinds ≡ length cells = length-fits kinds cells fit in
    rw many (grind (arith, is_row))

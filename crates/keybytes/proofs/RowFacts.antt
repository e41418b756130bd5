-- What makes a list of cells a row.
use Rattle.std.proofs.Common.{◌≡◌, List, [], ◌∷◌, None, true, refl, arith}
use Rattle.std.specs.List.{All, list_all}
use Rattle.std.proofs.lemmas.List.Elements.{All-head, All-tail}
use Rattle.std.proofs.lemmas.Bool.Decides.{nat_tests}
use Rattle.keybytes.specs.Cells.{IsCell, is_short}
use Rattle.keybytes.specs.Rows.{IsRow, row_refusal, has_row_length}
use Rattle.keybytes.specs.declared.cell.Cell.{Cell}
use Rattle.keybytes.specs.declared.cell.Cell.TheVariants.{Null, Int, Text, Flag}

-- a cell that a row may hold has no long text
pub is_short-IsCell : (cell : Cell) → IsCell cell → is_short cell ≡ true
is_short-IsCell Null held = refl
is_short-IsCell (Int number) held = refl
is_short-IsCell (Text bytes) held = grind (arith, nat_tests, held.1)
is_short-IsCell (Flag flag) held = refl

pub list_all-IsCell : (cells : List Cell) → All IsCell cells → list_all is_short cells ≡ true
list_all-IsCell [] held = refl
list_all-IsCell (cell ∷ cells) held =
    rw (is_short-IsCell cell (All-head IsCell cell cells held)) (list_all-IsCell cells (All-tail IsCell cell cells held))

-- nothing refuses the cells of a row
pub row_refusal-IsRow : (cells : List Cell) → IsRow cells → row_refusal cells ≡ None
row_refusal-IsRow cells held =
    let counted : has_row_length cells ≡ true = grind (arith, nat_tests, held.some, held.few) in
    let all_short : list_all is_short cells ≡ true = list_all-IsCell cells held.each in
    rw (counted, all_short) refl

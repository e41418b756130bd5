-- Rows, RIDs and cells written out: their definitions at values that a reader can check by hand.
use Rattle.std.proofs.Common.{◌≡◌, pos, negsuc, true, false, [], ◌∷◌, replicate, Some, Less, Greater, refl}
use Rattle.keybytes.specs.Rids.{rid_cmp}
use Rattle.keybytes.specs.Cells.{cell_cmp, columns_cmp}
use Rattle.keybytes.specs.Rows.{cell_bytes, row_bytes, row_refusal}
use Rattle.keybytes.specs.declared.key_col.KeyCol.{KeyCol}
use Rattle.keybytes.specs.declared.cell.Cell.TheVariants.{Null, Int, Text, Flag}
use Rattle.keybytes.specs.declared.fault.Fault.TheVariants.{RowShape, TextTooLong}

-- 5, 'ab', Null, true
mixed_row : row_bytes (Int (pos 5) ∷ Text (0x61 ∷ 0x62 ∷ []) ∷ Null ∷ Flag true ∷ []) ≡ 1 ∷ 0 ∷ 0 ∷ 0 ∷ 0 ∷ 0 ∷ 0 ∷ 0 ∷ 5 ∷ 1 ∷ 2 ∷ 0x61 ∷ 0x62 ∷ 0 ∷ 1 ∷ 1 ∷ []
mixed_row = refl

-- two's complement
minus_two : cell_bytes (Int (negsuc 1)) ≡ 1 ∷ 0xFF ∷ 0xFF ∷ 0xFF ∷ 0xFF ∷ 0xFF ∷ 0xFF ∷ 0xFF ∷ 0xFE ∷ []
minus_two = refl

-- 1.9 stands before 2.0
page_first : rid_cmp (record { page = 1; slot = 9 }) (record { page = 2; slot = 0 }) ≡ Less
page_first = refl

-- thirteen cells are too many before a text among them is too long
too_many : row_refusal (replicate 13 (Text (replicate 101 0x61))) ≡ Some RowShape
too_many = refl

too_long : row_refusal (replicate 12 (Text (replicate 101 0x61))) ≡ Some TextTooLong
too_long = refl

-- Null stands first, a front of a text before the text, and what comes first decides
null_first : cell_cmp Null (Int (negsuc 4)) ≡ Less
null_first = refl

front_first : cell_cmp (Text (0x61 ∷ [])) (Text (0x61 ∷ 0 ∷ [])) ≡ Less
front_first = refl

abbrev up : KeyCol
up = record { column = 0; descending = false }

abbrev down : KeyCol
down = record { column = 0; descending = true }

first_column : columns_cmp (up ∷ up ∷ []) (Int (negsuc 0) ∷ Flag true ∷ []) (Int (pos 0) ∷ Flag false ∷ []) ≡ Less
first_column = refl

-- in a descending column the greater number stands first and Null last, and what stands behind it decides as before
greatest_first : columns_cmp (down ∷ []) (Int (pos 9) ∷ []) (Int (pos 5) ∷ []) ≡ Less
greatest_first = refl

front_last : columns_cmp (down ∷ []) (Text (0x61 ∷ []) ∷ []) (Text (0x61 ∷ 0 ∷ []) ∷ []) ≡ Greater
front_last = refl

null_last : columns_cmp (down ∷ []) (Null ∷ []) (Int (negsuc 4) ∷ []) ≡ Greater
null_last = refl

second_column : columns_cmp (down ∷ up ∷ []) (Null ∷ Flag false ∷ []) (Null ∷ Flag true ∷ []) ≡ Less
second_column = refl

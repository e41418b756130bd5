-- Keys written out: the definition of their bytes, at values that a reader can check by hand.
use Rattle.std.proofs.Common.{◌≡◌, pos, negsuc, true, false, [], ◌∷◌, length, replicate, refl}
use Rattle.keybytes.specs.Keys.{cell_key, column_key, key_bytes}
use Rattle.keybytes.specs.declared.key_col.KeyCol.{KeyCol}
use Rattle.keybytes.specs.declared.cell.Cell.TheVariants.{Null, Int, Text, Flag}

-- -5
below_zero : cell_key (Int (negsuc 4)) ≡ 1 ∷ 0x7F ∷ 0xFF ∷ 0xFF ∷ 0xFF ∷ 0xFF ∷ 0xFF ∷ 0xFF ∷ 0xFB ∷ []
below_zero = refl

-- the least number of 64 bits, and the greatest
least : cell_key (Int (negsuc 9223372036854775807)) ≡ 1 ∷ 0 ∷ 0 ∷ 0 ∷ 0 ∷ 0 ∷ 0 ∷ 0 ∷ 0 ∷ []
least = refl

greatest : cell_key (Int (pos 9223372036854775807)) ≡ 1 ∷ 0xFF ∷ 0xFF ∷ 0xFF ∷ 0xFF ∷ 0xFF ∷ 0xFF ∷ 0xFF ∷ 0xFF ∷ []
greatest = refl

minus_one : cell_key (Int (negsuc 0)) ≡ 1 ∷ 0x7F ∷ 0xFF ∷ 0xFF ∷ 0xFF ∷ 0xFF ∷ 0xFF ∷ 0xFF ∷ 0xFF ∷ []
minus_one = refl

zero_number : cell_key (Int (pos 0)) ≡ 1 ∷ 0x80 ∷ 0 ∷ 0 ∷ 0 ∷ 0 ∷ 0 ∷ 0 ∷ 0 ∷ []
zero_number = refl

abbrev up : KeyCol
up = record { column = 0; descending = false }

abbrev down : KeyCol
down = record { column = 0; descending = true }

two_columns : key_bytes (up ∷ up ∷ []) (Null ∷ Flag false ∷ []) ≡ 0 ∷ 1 ∷ 0 ∷ []
two_columns = refl

two_directions : key_bytes (down ∷ up ∷ []) (Null ∷ Flag false ∷ []) ≡ 0xFF ∷ 1 ∷ 0 ∷ []
two_directions = refl

flag_true : key_bytes (up ∷ []) (Flag true ∷ []) ≡ 1 ∷ 1 ∷ []
flag_true = refl

-- the texts '', 'a', 'a' with a byte 0, and 'ab'
empty_text : cell_key (Text []) ≡ 1 ∷ 0 ∷ 1 ∷ []
empty_text = refl

text_a : cell_key (Text (0x61 ∷ [])) ≡ 1 ∷ 0x61 ∷ 0 ∷ 1 ∷ []
text_a = refl

text_a_zero : cell_key (Text (0x61 ∷ 0 ∷ [])) ≡ 1 ∷ 0x61 ∷ 0 ∷ 0xFF ∷ 0 ∷ 1 ∷ []
text_a_zero = refl

text_ab : cell_key (Text (0x61 ∷ 0x62 ∷ [])) ≡ 1 ∷ 0x61 ∷ 0x62 ∷ 0 ∷ 1 ∷ []
text_ab = refl

-- a hundred bytes 0, and the longest key: four such texts
zeros : length (cell_key (Text (replicate 100 0))) ≡ 203
zeros = refl

longest : length (key_bytes (replicate 4 down) (replicate 4 (Text (replicate 100 0)))) ≡ 812
longest = refl

-- descending columns: Null, 5, 'a', the empty text, true and false
null_down : column_key true Null ≡ 0xFF ∷ []
null_down = refl

five_down : column_key true (Int (pos 5)) ≡ 0xFE ∷ 0x7F ∷ 0xFF ∷ 0xFF ∷ 0xFF ∷ 0xFF ∷ 0xFF ∷ 0xFF ∷ 0xFA ∷ []
five_down = refl

a_down : column_key true (Text (0x61 ∷ [])) ≡ 0xFE ∷ 0x9E ∷ 0xFF ∷ 0xFE ∷ []
a_down = refl

empty_down : column_key true (Text []) ≡ 0xFE ∷ 0xFF ∷ 0xFE ∷ []
empty_down = refl

true_down : column_key true (Flag true) ≡ 0xFE ∷ 0xFE ∷ []
true_down = refl

false_down : column_key true (Flag false) ≡ 0xFE ∷ 0xFF ∷ []
false_down = refl

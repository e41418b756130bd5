-- What is left of a key while its columns are read back.
use Rattle.std.proofs.Common.{subst, ◌≡◌, ℕ, zero, suc, ◌+◌, ◌-◌, ◌%◌, ◌^◌, ◌≤◌, ℤ, pos, negsuc, Bool, true, false, List, [], ◌∷◌, ◌++◌, map, length, take, drop}
use Rattle.std.proofs.Common.{get_or, not, eqb, FitsSigned, IsUtf8, w64, if◌then◌else◌, refl, sym, ap, ◌∙◌, arith, append_assoc, append-nil, get_or-drop}
use Rattle.std.proofs.Common.{drop-drop, drop_at, length-append, length-drop}
use Rattle.std.specs.List.{All}
use Rattle.std.specs.Int.{to_be_bytes, cast_signed, cast_unsigned}
use Rattle.std.proofs.lemmas.Int.{to_z-of_z}
use Rattle.std.proofs.lemmas.Bool.{and_parts}
use Rattle.std.proofs.lemmas.List.Elements.{All-head, All-tail}
use Rattle.std.proofs.lemmas.List.{take_rest, map-append}
use Rattle.byteorder.specs.Endian.{big_number}
use Rattle.byteorder.specs.Numbers.{big_number-reads_back}
use Rattle.keybytes.specs.Cells.{IsCell, fits, fits_kind}
use Rattle.keybytes.specs.Keys.{raised_number, text_key, cell_key, column_key, complement, key_bytes, BeginsWithCellKey, BeginsWithColumnKey}
use Rattle.keybytes.specs.declared.cell.Cell.{Cell}
use Rattle.keybytes.specs.declared.cell.Cell.TheVariants.{Null, Int, Text, Flag}
use Rattle.keybytes.specs.declared.key_col.KeyCol.{KeyCol}
use Rattle.keybytes.specs.declared.kind.Kind.{Kind}
use Rattle.keybytes.specs.declared.kind.Kind.TheVariants.{Int as IntKind, Text as TextKind, Flag as FlagKind}
use Rattle.keybytes.proofs.Complements.{bytes-cell_key, complement-twice}
use Rattle.keybytes.proofs.KeyLaws.{length-column_key}
use Rattle.keybytes.proofs.KeyOrder.{raised_number-lt}

-- ---- what stands at a place

front-read : (bytes : List ℕ) (at x : ℕ) (xs : List ℕ) → drop at bytes ≡ x ∷ xs → get_or bytes at 0 ≡ x
front-read bytes at x xs behind =
    ap (λ (i : ℕ). get_or bytes i 0) (omega arith) ∙ sym (get_or-drop at bytes 0 0) ∙ ap (λ (ys : List ℕ). get_or ys 0 0) behind

second-read : (bytes : List ℕ) (at x y : ℕ) (xs : List ℕ) → drop at bytes ≡ x ∷ y ∷ xs → get_or bytes (at + 1) 0 ≡ y
second-read bytes at x y xs behind = sym (get_or-drop at bytes 1 0) ∙ ap (λ (ys : List ℕ). get_or ys 1 0) behind

-- ---- a text

-- what is left of a text whose first bytes are read, and where its key bytes go on
pub record TextLeft (text rest bytes read : List ℕ) (at : ℕ) : Type 0 where
  pub left : List ℕ
  pub whole : text ≡ read ++ left
  pub behind : drop at bytes ≡ text_key left ++ rest
  pub passed : at + length (text_key left) ≡ length (text_key text)

module _ (text rest bytes read : List ℕ) (at : ℕ) where
  zero_more : (left : List ℕ) → text ≡ read ++ left → drop at bytes ≡ text_key left ++ rest → at + length (text_key left) ≡ length (text_key text)
      → get_or bytes at 0 ≡ 0 → get_or bytes (at + 1) 0 ≡ 255 → TextLeft text rest bytes (read ++ 0 ∷ []) (at + 2)
  zero_more [] whole behind passed first second =
      let other : get_or bytes (at + 1) 0 ≡ 1 = second-read bytes at 0 1 rest behind in
      absurd (omega arith)
  zero_more (zero ∷ left) whole behind passed first second = record {
    left = left;
    whole = whole ∙ sym (append_assoc read (0 ∷ []) left);
    behind = sym (drop-drop 2 at bytes) ∙ ap (drop 2) behind;
    passed = omega arith;
  }
  zero_more (suc b ∷ left) whole behind passed first second =
      let other : get_or bytes at 0 ≡ suc b = front-read bytes at (suc b) _ behind in
      absurd (omega arith)

  other_more : (left : List ℕ) → text ≡ read ++ left → drop at bytes ≡ text_key left ++ rest → at + length (text_key left) ≡ length (text_key text)
      → (get_or bytes at 0 ≡ 0 → ⊥) → TextLeft text rest bytes (read ++ get_or bytes at 0 ∷ []) (at + 1)
  other_more [] whole behind passed apart = absurd (apart (front-read bytes at 0 _ behind))
  other_more (zero ∷ left) whole behind passed apart = absurd (apart (front-read bytes at 0 _ behind))
  other_more (suc b ∷ left) whole behind passed apart =
      let same : get_or bytes at 0 ≡ suc b = front-read bytes at (suc b) _ behind in
      record {
        left = left;
        whole = whole ∙ sym (append_assoc read (suc b ∷ []) left) ∙ ap (λ (x : ℕ). (read ++ x ∷ []) ++ left) (sym same);
        behind = sym (drop-drop 1 at bytes) ∙ ap (drop 1) behind;
        passed = omega arith;
      }

  none_more : (left : List ℕ) → text ≡ read ++ left → drop at bytes ≡ text_key left ++ rest → at + length (text_key left) ≡ length (text_key text)
      → get_or bytes at 0 ≡ 0 → (get_or bytes (at + 1) 0 ≡ 255 → ⊥) → (text ≡ read) × (at + 2 ≡ length (text_key text))
  none_more [] whole behind passed first apart = (whole ∙ append-nil read, passed)
  none_more (zero ∷ left) whole behind passed first apart = absurd (apart (second-read bytes at 0 255 _ behind))
  none_more (suc b ∷ left) whole behind passed first apart =
      let other : get_or bytes at 0 ≡ suc b = front-read bytes at (suc b) _ behind in
      absurd (omega arith)

pub text_zero_more : (text rest bytes read : List ℕ) (at : ℕ) → TextLeft text rest bytes read at → get_or bytes at 0 ≡ 0 → get_or bytes (at + 1) 0 ≡ 255
    → TextLeft text rest bytes (read ++ 0 ∷ []) (at + 2)
text_zero_more text rest bytes read at was first second = zero_more text rest bytes read at was.left was.whole was.behind was.passed first second

pub text_other_more : (text rest bytes read : List ℕ) (at : ℕ) → TextLeft text rest bytes read at → (get_or bytes at 0 ≡ 0 → ⊥)
    → TextLeft text rest bytes (read ++ get_or bytes at 0 ∷ []) (at + 1)
text_other_more text rest bytes read at was apart = other_more text rest bytes read at was.left was.whole was.behind was.passed apart

-- where the end mark stands, the text is read
pub text_end : (text rest bytes read : List ℕ) (at : ℕ) → TextLeft text rest bytes read at → get_or bytes at 0 ≡ 0 → (get_or bytes (at + 1) 0 ≡ 255 → ⊥)
    → (text ≡ read) × (at + 2 ≡ length (text_key text))
text_end text rest bytes read at was first apart = none_more text rest bytes read at was.left was.whole was.behind was.passed first apart

-- ---- a cell

bits-raised_number : (n : ℤ) → FitsSigned w64 n → (raised_number n + (2 ^ 64 - 2 ^ 63)) % 2 ^ 64 ≡ cast_unsigned w64 n
bits-raised_number (pos n) fits_n = omega (arith, fits_n.sfits)
bits-raised_number (negsuc n) fits_n = omega (arith, fits_n.sfits)

pub lowered-raised_number : (n : ℤ) → FitsSigned w64 n → cast_signed w64 ((raised_number n + (2 ^ 64 - 2 ^ 63)) % 2 ^ 64) ≡ n
lowered-raised_number n fits_n = ap (cast_signed w64) (bits-raised_number n fits_n) ∙ to_z-of_z w64 n fits_n

-- bytes that begin with the key of a cell that is not Null, by the column's kind

pub record IntFront (cell : Cell) (rest bytes : List ℕ) : Type 0 where
  pub number : ℤ
  pub is_cell : cell ≡ Int number
  pub valid : FitsSigned w64 number
  pub behind : drop 1 bytes ≡ to_be_bytes w64 (raised_number number) ++ rest

pub record TextFront (cell : Cell) (rest bytes : List ℕ) : Type 0 where
  pub text : List ℕ
  pub is_cell : cell ≡ Text text
  pub utf8 : IsUtf8 text
  pub behind : drop 1 bytes ≡ text_key text ++ rest

pub record FlagFront (cell : Cell) (rest bytes : List ℕ) : Type 0 where
  pub flag : Bool
  pub is_cell : cell ≡ Flag flag
  pub behind : drop 1 bytes ≡ (if flag then 1 else 0) ∷ rest

module _ {rest bytes : List ℕ} where
  int_front_at : (cell : Cell) → fits_kind IntKind cell ≡ true → IsCell cell → bytes ≡ cell_key cell ++ rest → (get_or bytes 0 0 ≡ 0 → ⊥)
      → IntFront cell rest bytes
  int_front_at Null of_kind valid front apart = absurd (apart (ap (λ (xs : List ℕ). get_or xs 0 0) front))
  int_front_at (Int number) of_kind valid front apart = record { number = number; is_cell = refl; valid = valid; behind = ap (drop 1) front }
  int_front_at (Text text) of_kind valid front apart = absurd cc
  int_front_at (Flag flag) of_kind valid front apart = absurd cc

  text_front_at : (cell : Cell) → fits_kind TextKind cell ≡ true → IsCell cell → bytes ≡ cell_key cell ++ rest → (get_or bytes 0 0 ≡ 0 → ⊥)
      → TextFront cell rest bytes
  text_front_at Null of_kind valid front apart = absurd (apart (ap (λ (xs : List ℕ). get_or xs 0 0) front))
  text_front_at (Int number) of_kind valid front apart = absurd cc
  text_front_at (Text text) of_kind valid front apart = record { text = text; is_cell = refl; utf8 = valid.0; behind = ap (drop 1) front }
  text_front_at (Flag flag) of_kind valid front apart = absurd cc

  flag_front_at : (cell : Cell) → fits_kind FlagKind cell ≡ true → IsCell cell → bytes ≡ cell_key cell ++ rest → (get_or bytes 0 0 ≡ 0 → ⊥)
      → FlagFront cell rest bytes
  flag_front_at Null of_kind valid front apart = absurd (apart (ap (λ (xs : List ℕ). get_or xs 0 0) front))
  flag_front_at (Int number) of_kind valid front apart = absurd cc
  flag_front_at (Text text) of_kind valid front apart = absurd cc
  flag_front_at (Flag flag) of_kind valid front apart = record { flag = flag; is_cell = refl; behind = ap (drop 1) front }

pub int_front : (kind : Kind) (cell : Cell) (rest bytes : List ℕ) → kind ≡ IntKind → BeginsWithCellKey kind cell rest bytes → (get_or bytes 0 0 ≡ 0 → ⊥)
    → IntFront cell rest bytes
int_front kind cell rest bytes is_kind begins apart = int_front_at cell (rw is_kind at begins.of_kind) begins.valid begins.front apart

pub text_front : (kind : Kind) (cell : Cell) (rest bytes : List ℕ) → kind ≡ TextKind → BeginsWithCellKey kind cell rest bytes → (get_or bytes 0 0 ≡ 0 → ⊥)
    → TextFront cell rest bytes
text_front kind cell rest bytes is_kind begins apart = text_front_at cell (rw is_kind at begins.of_kind) begins.valid begins.front apart

pub flag_front : (kind : Kind) (cell : Cell) (rest bytes : List ℕ) → kind ≡ FlagKind → BeginsWithCellKey kind cell rest bytes → (get_or bytes 0 0 ≡ 0 → ⊥)
    → FlagFront cell rest bytes
flag_front kind cell rest bytes is_kind begins apart = flag_front_at cell (rw is_kind at begins.of_kind) begins.valid begins.front apart

-- ---- a column

-- a descending column's bytes, complemented, are those of its cell
pub turned_front : (kind : Kind) (cell : Cell) (rest bytes : List ℕ) → BeginsWithColumnKey true kind cell rest bytes
    → BeginsWithCellKey kind cell (map complement rest) (map complement bytes)
turned_front kind cell rest bytes begins = record {
  of_kind = begins.of_kind;
  valid = begins.valid;
  front = ap (map complement) begins.front
      ∙ map-append complement (map complement (cell_key cell)) rest
      ∙ ap (λ (xs : List ℕ). xs ++ map complement rest) (complement-twice (cell_key cell) (bytes-cell_key cell begins.valid));
}

-- a column that doesn't descend has its cell's bytes
pub plain_front : (kind : Kind) (cell : Cell) (rest bytes : List ℕ) → BeginsWithColumnKey false kind cell rest bytes → BeginsWithCellKey kind cell rest bytes
plain_front kind cell rest bytes begins = record { of_kind = begins.of_kind; valid = begins.valid; front = begins.front }

-- ---- the columns

-- what is left of a key's columns whose first cells are read: their cells, with the kinds and the bytes of those
pub record ColumnsLeft (cells read : List Cell) (columns : List KeyCol) (kinds : List Kind) (bytes : List ℕ) (at : ℕ) : Type 0 where
  pub left : List Cell
  pub whole : cells ≡ read ++ left
  pub fits_kinds : fits kinds left ≡ true
  pub each : All IsCell left
  pub behind : drop at bytes ≡ key_bytes columns left
  pub within : at ≤ length bytes

module _ (cells read : List Cell) (column : KeyCol) (columns : List KeyCol) (kind : Kind) (kinds : List Kind) (bytes : List ℕ) (at : ℕ) where
  begins_at : (left : List Cell) → fits (kind ∷ kinds) left ≡ true → All IsCell left → drop at bytes ≡ key_bytes (column ∷ columns) left
      → (cell : Cell) × (rest : List ℕ) × BeginsWithColumnKey column.descending kind cell rest (drop at bytes)
  begins_at [] fit each behind = absurd cc
  begins_at (cell ∷ left) fit each behind = (
    cell,
    key_bytes columns left,
    record {
      of_kind = (and_parts (fits_kind kind cell) (fits kinds left) fit).0;
      valid = All-head IsCell cell left each;
      front = behind;
    },
  )

  columns_more_at : (left : List Cell) → cells ≡ read ++ left → fits (kind ∷ kinds) left ≡ true → All IsCell left
      → drop at bytes ≡ key_bytes (column ∷ columns) left → at ≤ length bytes → (next : Cell) (len : ℕ)
      → ((cell : Cell) (rest : List ℕ) → BeginsWithColumnKey column.descending kind cell rest (drop at bytes)
      → (next ≡ cell) × (len ≡ length (cell_key cell)))
      → ColumnsLeft cells (read ++ next ∷ []) columns kinds bytes (at + len)
  columns_more_at [] whole fit each behind within next len tells = absurd cc
  columns_more_at (cell ∷ left) whole fit each behind within next len tells =
      let parts = and_parts (fits_kind kind cell) (fits kinds left) fit in
      let own = column_key column.descending cell in
      let told = tells cell (key_bytes columns left) (record { of_kind = parts.0; valid = All-head IsCell cell left each; front = behind }) in
      let same : len ≡ length own = told.1 ∙ sym (length-column_key column.descending cell) in
      let long : length bytes - at ≡ length own + length (key_bytes columns left) =
      sym (length-drop at bytes) ∙ ap length behind ∙ length-append own (key_bytes columns left) in
      record {
        left = left;
        whole = whole ∙ sym (append_assoc read (cell ∷ []) left) ∙ ap (λ (x : Cell). (read ++ x ∷ []) ++ left) (sym told.0);
        fits_kinds = parts.1;
        each = All-tail IsCell cell left each;
        behind = sym (drop-drop len at bytes) ∙ ap (drop len) behind ∙ drop_at own (key_bytes columns left) len (sym same);
        within = omega (arith, same);
      }

pub columns_begin : (cells read : List Cell) (column : KeyCol) (columns : List KeyCol) (kind : Kind) (kinds : List Kind) (bytes : List ℕ) (at : ℕ)
    → ColumnsLeft cells read (column ∷ columns) (kind ∷ kinds) bytes at
    → (cell : Cell) × (rest : List ℕ) × BeginsWithColumnKey column.descending kind cell rest (drop at bytes)
columns_begin cells read column columns kind kinds bytes at was = begins_at cells read column columns kind kinds bytes at was.left was.fits_kinds was.each was.behind

-- one more cell is read
pub columns_more : (cells read : List Cell) (column : KeyCol) (columns : List KeyCol) (kind : Kind) (kinds : List Kind) (bytes : List ℕ) (at : ℕ)
    → ColumnsLeft cells read (column ∷ columns) (kind ∷ kinds) bytes at → (next : Cell) (len : ℕ)
    → ((cell : Cell) (rest : List ℕ) → BeginsWithColumnKey column.descending kind cell rest (drop at bytes)
    → (next ≡ cell) × (len ≡ length (cell_key cell))) → ColumnsLeft cells (read ++ next ∷ []) columns kinds bytes (at + len)
columns_more cells read column columns kind kinds bytes at was next len tells =
    columns_more_at cells read column columns kind kinds bytes at was.left was.whole was.fits_kinds was.each was.behind was.within next len tells

-- ---- what is read behind a tag

pub read-number : (cell : Cell) (rest bytes : List ℕ) → IntFront cell rest bytes → (read : ℕ) → read ≡ big_number 8 (take (length bytes - 1) (drop 1 bytes))
    → (number : ℤ) → number ≡ cast_signed w64 ((read + (2 ^ 64 - 2 ^ 63)) % 2 ^ 64) → Int (cast_signed w64 (cast_unsigned w64 number)) ≡ cell
read-number cell rest bytes front read is_read number is_number =
    let whole : read ≡ raised_number front.number =
    is_read ∙ ap (big_number 8) (take_rest bytes 1 ∙ front.behind)
    ∙ big_number-reads_back 8 (raised_number front.number) rest (raised_number-lt front.number front.valid) in
    let same : number ≡ front.number =
    is_number ∙ ap (λ (n : ℕ). cast_signed w64 ((n + (2 ^ 64 - 2 ^ 63)) % 2 ^ 64)) whole ∙ lowered-raised_number front.number front.valid in
    ap (λ (n : ℤ). Int (cast_signed w64 (cast_unsigned w64 n))) same ∙ ap Int (to_z-of_z w64 front.number front.valid) ∙ sym front.is_cell

flag-read : (flag : Bool) (xs rest : List ℕ) → xs ≡ (if flag then 1 else 0) ∷ rest → Flag (not (eqb (get_or xs 0 0) 0)) ≡ Flag flag
flag-read true xs rest front = ap (λ (ys : List ℕ). Flag (not (eqb (get_or ys 0 0) 0))) front
flag-read false xs rest front = ap (λ (ys : List ℕ). Flag (not (eqb (get_or ys 0 0) 0))) front

pub read-flag : (cell : Cell) (rest bytes : List ℕ) → FlagFront cell rest bytes
    → Flag (not (eqb (get_or (take (length bytes - 1) (drop 1 bytes)) 0 0) 0)) ≡ cell
read-flag cell rest bytes front = flag-read front.flag _ rest (take_rest bytes 1 ∙ front.behind) ∙ sym front.is_cell

-- all cells are read
pub columns_done : (cells read : List Cell) (columns : List KeyCol) (kinds : List Kind) (bytes : List ℕ) (at : ℕ) → kinds ≡ []
    → ColumnsLeft cells read columns kinds bytes at → cells ≡ read
columns_done cells read columns kinds bytes at none was =
    was.whole ∙ ap (λ (xs : List Cell). read ++ xs) (nothing was.left (subst (λ (ks : List Kind). fits ks was.left ≡ true) none was.fits_kinds))
    ∙ append-nil read where
      nothing : (left : List Cell) → fits [] left ≡ true → left ≡ []
      nothing [] fit = refl
      nothing (cell ∷ left) fit = absurd cc

-- What a key's bytes tell of its columns, and how long they are.
use Rattle.std.proofs.Common.{◌≡◌, ℕ, zero, suc, ◌*◌, ◌<◌, ◌≤◌, ℤ, ◌<ℤ◌, nat_lt, Bool, true, false, List, [], ◌∷◌, ◌++◌, map, length, get_or, slice_index_or, nat_cmp}
use Rattle.std.proofs.Common.{int_cmp, Ordering, Less, Equal, Greater, refl, sym, ap, ap₂, ◌∙◌, subst, arith, append-nil, length-append, lit≤}
use Rattle.std.specs.List.{All, flat_map}
use Rattle.std.specs.Ordering.{MatchOrdering, ordering_then}
use Rattle.std.specs.Cmp.Lexicographic.{slice_cmp}
use Rattle.std.proofs.lemmas.Bool.{and_parts, and_from, ltb-true}
use Rattle.std.proofs.lemmas.Cmp.{ranked, int_ranked, tied_itself, int_cmp_total, nat_list_cmp_total}
use Rattle.std.proofs.lemmas.List.{length-map}
use Rattle.std.proofs.lemmas.List.Elements.{All-head, All-tail, All-map}
use Rattle.keybytes.specs.Cells.{IsCell, fits, fits_kind, cell_cmp, directed, columns_cmp}
use Rattle.keybytes.specs.Keys.{KeySpecValue, are_there, are_key_columns, has_key_length, are_distinct, escaped_byte, cell_key, column_key, complement, key_bytes}
use Rattle.keybytes.specs.Keys.{key_columns, key_kinds, key_of, HasKey, IsRowOf, IsKeyOf, StandsForColumns}
use Rattle.keybytes.specs.declared.cell.Cell.{Cell}
use Rattle.keybytes.specs.declared.cell.Cell.TheVariants.{Null, Int, Text, Flag}
use Rattle.keybytes.specs.declared.key_col.KeyCol.{KeyCol}
use Rattle.keybytes.specs.declared.kind.Kind.{Kind}
use Rattle.keybytes.specs.declared.kind.Kind.TheVariants.{Int as IntKind}
use Rattle.keybytes.proofs.KeyOrder.{ordering_then-Equal, tied_first, tied_second, slice_cmp-same, key_bytes-order}

-- ---- what ties is one

nat-same : (x y : ℕ) → nat_cmp x y ≡ Equal → x ≡ y
nat-same x y tied = subst (λ (o : Ordering). MatchOrdering o (x < y) (x ≡ y) (y < x)) tied (ranked x y _ refl)

int-same : (x y : ℤ) → int_cmp x y ≡ Equal → x ≡ y
int-same x y tied = subst (λ (o : Ordering). MatchOrdering o (x <ℤ y) (x ≡ y) (y <ℤ x)) tied (int_ranked x y _ refl)

pub cell-same : (a b : Cell) → cell_cmp a b ≡ Equal → a ≡ b
cell-same Null Null tied = refl
cell-same (Int m) (Int n) tied = ap Int (int-same m n tied)
cell-same (Text s) (Text t) tied = ap Text (slice_cmp-same nat_cmp nat-same s t tied)
cell-same (Flag true) (Flag true) tied = refl
cell-same (Flag false) (Flag false) tied = refl
cell-same a b tied = cc

-- a cell ties with itself
pub cell-tied : (a : Cell) → cell_cmp a a ≡ Equal
cell-tied Null = refl
cell-tied (Int n) = tied_itself int_cmp_total n
cell-tied (Text t) = tied_itself nat_list_cmp_total t
cell-tied (Flag true) = refl
cell-tied (Flag false) = refl

directed-tied : (descending : Bool) (o : Ordering) → directed descending o ≡ Equal → o ≡ Equal
directed-tied false o tied = tied
directed-tied true Less tied = cc
directed-tied true Equal tied = refl
directed-tied true Greater tied = cc

columns-same : (columns : List KeyCol) (kinds : List Kind) (us vs : List Cell) → length columns ≡ length kinds → fits kinds us ≡ true → fits kinds vs ≡ true
    → columns_cmp columns us vs ≡ Equal → us ≡ vs
columns-same [] [] [] [] many fits_us fits_vs tied = refl
columns-same [] [] [] (v ∷ vs) many fits_us fits_vs tied = cc
columns-same [] [] (u ∷ us) vs many fits_us fits_vs tied = cc
columns-same [] (kind ∷ kinds) us vs many fits_us fits_vs tied = absurd (omega (arith, many))
columns-same (column ∷ columns) [] us vs many fits_us fits_vs tied = absurd (omega (arith, many))
columns-same (column ∷ columns) (kind ∷ kinds) [] vs many fits_us fits_vs tied = cc
columns-same (column ∷ columns) (kind ∷ kinds) (u ∷ us) [] many fits_us fits_vs tied = cc
columns-same (column ∷ columns) (kind ∷ kinds) (u ∷ us) (v ∷ vs) many fits_us fits_vs tied =
    let first = directed-tied column.descending (cell_cmp u v) (tied_first (directed column.descending (cell_cmp u v)) (columns_cmp columns us vs) tied) in
    let rest = tied_second (directed column.descending (cell_cmp u v)) (columns_cmp columns us vs) tied in
    ap₂ (λ (c : Cell) (cs : List Cell). c ∷ cs) (cell-same u v first)
    (columns-same columns kinds us vs (omega (arith, many)) (and_parts (fits_kind kind u) (fits kinds us) fits_us).1
    (and_parts (fits_kind kind v) (fits kinds vs) fits_vs).1 rest)

-- ---- two keys of one specification

many-kinds : (spec : KeySpecValue) → length spec.columns ≡ length (key_kinds spec)
many-kinds spec = sym (length-map spec.columns (λ named. slice_index_or spec.kinds named.column IntKind))

keys-order : (spec : KeySpecValue) (key other : List ℕ) (us vs : List Cell) (xs ys : List ℕ) → HasKey spec key us → HasKey spec other vs
    → slice_cmp nat_cmp (key ++ xs) (other ++ ys) ≡ ordering_then (columns_cmp spec.columns us vs) (slice_cmp nat_cmp xs ys)
keys-order spec key other us vs xs ys has_us has_vs =
    ap₂ (λ m n. slice_cmp nat_cmp (m ++ xs) (n ++ ys)) (sym has_us.bytes) (sym has_vs.bytes)
    ∙ key_bytes-order spec.columns (key_kinds spec) us vs xs ys (many-kinds spec) has_us.fits_kinds has_vs.fits_kinds has_us.each has_vs.each

pub key-order : (spec : KeySpecValue) (key other : List ℕ) (us vs : List Cell) → HasKey spec key us → HasKey spec other vs
    → slice_cmp nat_cmp key other ≡ columns_cmp spec.columns us vs
key-order spec key other us vs has_us has_vs =
    ap₂ (slice_cmp nat_cmp) (sym (append-nil key)) (sym (append-nil other))
    ∙ keys-order spec key other us vs [] [] has_us has_vs
    ∙ ordering_then-Equal (columns_cmp spec.columns us vs)

-- a key that begins another has the same columns
pub key-front : (spec : KeySpecValue) (key other rest : List ℕ) (us vs : List Cell) → HasKey spec key us → HasKey spec other vs → other ≡ key ++ rest → us ≡ vs
key-front spec key other rest us vs has_us has_vs front =
    let tied : slice_cmp nat_cmp (key ++ rest) (other ++ []) ≡ Equal = rw (append-nil other, front) (tied_itself nat_list_cmp_total (key ++ rest)) in
    columns-same spec.columns (key_kinds spec) us vs (many-kinds spec) has_us.fits_kinds has_vs.fits_kinds
    (tied_first (columns_cmp spec.columns us vs) _ (sym (keys-order spec key other us vs rest [] has_us has_vs) ∙ tied))

-- ---- the key's columns of a row

fits-at : (kinds : List Kind) (row : List Cell) (i : ℕ) → fits kinds row ≡ true → i < length kinds
    → fits_kind (get_or kinds i IntKind) (get_or row i Null) ≡ true
fits-at [] [] i fit within = absurd (omega arith)
fits-at [] (cell ∷ row) i fit within = cc
fits-at (kind ∷ kinds) [] i fit within = cc
fits-at (kind ∷ kinds) (cell ∷ row) zero fit within = (and_parts (fits_kind kind cell) (fits kinds row) fit).0
fits-at (kind ∷ kinds) (cell ∷ row) (suc i) fit within =
    fits-at kinds row i (and_parts (fits_kind kind cell) (fits kinds row) fit).1 (omega arith)

picked-fits : (kinds : List Kind) (row : List Cell) (columns : List KeyCol) → fits kinds row ≡ true → are_there kinds columns ≡ true
    → fits (map (λ named. slice_index_or kinds named.column IntKind) columns) (map (λ named. slice_index_or row named.column Null) columns) ≡ true
picked-fits kinds row [] fit there = refl
picked-fits kinds row (named ∷ columns) fit there =
    let parts = and_parts (nat_lt named.column (length kinds)) (are_there kinds columns) there in
    and_from _ _ (fits-at kinds row named.column fit (ltb-true named.column (length kinds) parts.0)) (picked-fits kinds row columns fit parts.1)

pub cell-at : (row : List Cell) (i : ℕ) → All IsCell row → IsCell (get_or row i Null)
cell-at [] i held = tt
cell-at (cell ∷ row) zero held = All-head IsCell cell row held
cell-at (cell ∷ row) (suc i) held = cell-at row i (All-tail IsCell cell row held)

pub picked-cells : (row : List Cell) (columns : List KeyCol) → All IsCell row → All IsCell (map (λ named. slice_index_or row named.column Null) columns)
picked-cells row columns held =
    All-map IsCell (λ named. slice_index_or row named.column Null) columns (λ k d within. cell-at row (get_or columns k d).column held)

pub there-part : (kinds : List Kind) (columns : List KeyCol) → are_key_columns kinds columns ≡ true → are_there kinds columns ≡ true
there-part kinds columns held =
    (and_parts (are_distinct columns) (are_there kinds columns) (and_parts (has_key_length columns) _ held).1).1

pub has-key : (spec : KeySpecValue) (row : List Cell) → are_key_columns spec.kinds spec.columns ≡ true → IsRowOf spec row
    → HasKey spec (key_of spec row) (key_columns spec row)
has-key spec row held is_row = record {
  fits_kinds = picked-fits spec.kinds row spec.columns is_row.fits_kinds (there-part spec.kinds spec.columns held);
  each = picked-cells row spec.columns is_row.is_row.each;
  bytes = refl;
}

-- the columns of a row's key
pub columns-of_key : (spec : KeySpecValue) (key : List ℕ) → are_key_columns spec.kinds spec.columns ≡ true → IsKeyOf spec key
    → (columns : List Cell) × HasKey spec key columns
columns-of_key spec key held of_row =
    (key_columns spec of_row.0, subst (λ (bytes : List ℕ). HasKey spec bytes (key_columns spec of_row.0)) of_row.1.1 (has-key spec of_row.0 held of_row.1.0))

pub key_of-laws : (spec : KeySpecValue) (row : List Cell) → are_key_columns spec.kinds spec.columns ≡ true → IsRowOf spec row
    → StandsForColumns spec row (key_of spec row)
key_of-laws spec row held is_row =
    let own = has-key spec row held is_row in
    record {
      order = λ other is_other. key-order spec _ _ _ _ own (has-key spec other held is_other);
      tells_apart = λ other is_other same. sym
          (key-front spec (key_of spec row) (key_of spec other) [] _ _ own (has-key spec other held is_other) (same ∙ sym (append-nil (key_of spec row))));
      no_front = λ other rest is_other front. ap (key_bytes spec.columns)
          (sym (key-front spec (key_of spec row) (key_of spec other) rest _ _ own (has-key spec other held is_other) front));
    }

-- ---- how long keys are

length-escaped_byte : (bytes : List ℕ) → length (flat_map escaped_byte bytes) ≤ 2 * length bytes
length-escaped_byte [] = lit≤ tt
length-escaped_byte (zero ∷ bytes) = omega (arith, length-escaped_byte bytes)
length-escaped_byte (suc b ∷ bytes) = omega (arith, length-escaped_byte bytes)

pub length-cell_key : (cell : Cell) → IsCell cell → length (cell_key cell) ≤ 203
length-cell_key Null held = lit≤ tt
length-cell_key (Int number) held = lit≤ tt
length-cell_key (Text bytes) held = omega (arith, length-append (flat_map escaped_byte bytes) (0 ∷ 1 ∷ []), length-escaped_byte bytes, held.1)
length-cell_key (Flag true) held = lit≤ tt
length-cell_key (Flag false) held = lit≤ tt

pub length-column_key : (descending : Bool) (cell : Cell) → length (column_key descending cell) ≡ length (cell_key cell)
length-column_key false cell = refl
length-column_key true cell = length-map (cell_key cell) complement

pub length-key_bytes : (columns : List KeyCol) (cells : List Cell) → All IsCell cells → length (key_bytes columns cells) ≤ 203 * length columns
length-key_bytes [] cells held = lit≤ tt
length-key_bytes (column ∷ columns) [] held = omega arith
length-key_bytes (column ∷ columns) (cell ∷ cells) held =
    omega (
      arith,
      length-append (column_key column.descending cell) (key_bytes columns cells),
      length-column_key column.descending cell,
      length-cell_key cell (All-head IsCell cell cells held),
      length-key_bytes columns cells (All-tail IsCell cell cells held),
    )

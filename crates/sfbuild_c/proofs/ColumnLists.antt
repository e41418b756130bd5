-- Columns of indexes and their bytes.
use Rattle.std.proofs.Common.{◌≡◌, ℕ, suc, ◌+◌, ◌<◌, ◌≤◌, Bool, true, false, List, [], ◌∷◌, ◌++◌, length, get_or, take, drop, refl, sym, ap, ap₂, ◌∙◌, arith}
use Rattle.std.proofs.Common.{append_assoc, add-one, drop-cons, length-take-le}
use Rattle.std.proofs.Math.ListN.{set}
use Rattle.std.proofs.Math.Seq.{take-suc-set}
use Rattle.std.proofs.lemmas.List.{take-append-drop}
use Rattle.std.proofs.lemmas.Grind.{flat_map-append}
use Rattle.std.specs.List.{flat_map}
use Rattle.keybytes.specs.declared.key_col.KeyCol.{KeyCol}
use Rattle.sfbuild_c.specs.IndexBytes.{column_bytes, flag_byte}

-- a flag's byte tells it
pub same_flag : (a b : Bool) → flag_byte a ≡ flag_byte b → a ≡ b
same_flag true true e = refl
same_flag false false e = refl
same_flag true false e = cc
same_flag false true e = cc

same_column : (x y : KeyCol) → x.column ≡ y.column → flag_byte x.descending ≡ flag_byte y.descending → x ≡ y
same_column x y place flag =
    let make : ℕ → Bool → KeyCol = λ c d. record { column = c; descending = d } in
    ap (λ (c : ℕ). make c x.descending) place ∙ ap (make y.column) (same_flag x.descending y.descending flag)

-- the bytes of as many columns, each with something behind them, tell both
pub same_columns :
    (xs ys : List KeyCol) (us vs : List ℕ) → length xs ≡ length ys → flat_map column_bytes xs ++ us ≡ flat_map column_bytes ys ++ vs
    → (xs ≡ ys) × (us ≡ vs)
same_columns [] [] us vs len e = (refl, e)
same_columns (x ∷ xs) (y ∷ ys) us vs len e =
    let e' : x.column ∷ flag_byte x.descending ∷ (flat_map column_bytes xs ++ us) ≡ y.column ∷ flag_byte y.descending ∷ (flat_map column_bytes ys ++ vs) = e in
    let place : x.column ≡ y.column = cc in
    let flag : flag_byte x.descending ≡ flag_byte y.descending = cc in
    let behind : flat_map column_bytes xs ++ us ≡ flat_map column_bytes ys ++ vs = cc in
    let more = same_columns xs ys us vs (omega (arith, len)) behind in
    (ap₂ (λ (z : KeyCol) (zs : List KeyCol). z ∷ zs) (same_column x y place flag) more.0, more.1)
same_columns [] (y ∷ ys) us vs len e = absurd (omega (arith, len))
same_columns (x ∷ xs) [] us vs len e = absurd (omega (arith, len))

-- a column more is read
pub column_more :
    (columns : List KeyCol) (bytes rest behind : List ℕ) (i place flag : ℕ) (descending : Bool) → i < length columns
    → bytes ≡ flat_map column_bytes (take i columns) ++ rest → rest ≡ place ∷ flag ∷ behind → flag_byte descending ≡ flag
    → bytes ≡ flat_map column_bytes (take (i + 1) (set columns i (record { column = place; descending = descending }))) ++ behind
column_more columns bytes rest behind i place flag descending inside e here told =
    let named : KeyCol = record { column = place; descending = descending } in
    let read : take (i + 1) (set columns i named) ≡ take i columns ++ named ∷ [] = rw add-one (take-suc-set columns i named inside) in
    let first : List ℕ = flat_map column_bytes (take i columns) in
    let bytes_of : flat_map column_bytes (take (i + 1) (set columns i named)) ≡ first ++ place ∷ flag_byte descending ∷ [] =
    ap (flat_map column_bytes) read ∙ flat_map-append column_bytes (take i columns) (named ∷ []) in
    e ∙ (ap (λ (xs : List ℕ). first ++ xs) (here ∙ ap (λ (x : ℕ). place ∷ x ∷ behind) (sym told))
    ∙ (sym (append_assoc first (place ∷ flag_byte descending ∷ []) behind) ∙ ap (λ (xs : List ℕ). xs ++ behind) (sym bytes_of)))

-- where no column begins after those read, no more columns do
pub no_columns :
    (columns others : List KeyCol) (bytes rest more : List ℕ) (i count : ℕ) → i < count → i ≤ length columns
    → bytes ≡ flat_map column_bytes (take i columns) ++ rest → ((x : KeyCol) (behind : List ℕ) → rest ≡ column_bytes x ++ behind → ⊥)
    → length others ≡ count → bytes ≡ flat_map column_bytes others ++ more → ⊥
no_columns columns others bytes rest more i count below inside e none len e' =
    let d : KeyCol = record { column = 0; descending = false } in
    let next : KeyCol = get_or others i d in
    let tail : List ℕ = flat_map column_bytes (drop (suc i) others) in
    let in_others : i < length others = omega (arith, len, below) in
    let parts : others ≡ take i others ++ next ∷ drop (suc i) others =
    sym (take-append-drop i others) ∙ ap (λ (xs : List KeyCol). take i others ++ xs) (drop-cons others i d in_others) in
    let bytes_of : flat_map column_bytes others ≡ flat_map column_bytes (take i others) ++ (column_bytes next ++ tail) =
    ap (flat_map column_bytes) parts ∙ flat_map-append column_bytes (take i others) (next ∷ drop (suc i) others) in
    let same : flat_map column_bytes (take i columns) ++ rest ≡ flat_map column_bytes (take i others) ++ (column_bytes next ++ (tail ++ more)) =
    sym e ∙ (e' ∙ (ap (λ (xs : List ℕ). xs ++ more) bytes_of ∙ append_assoc (flat_map column_bytes (take i others)) (column_bytes next ++ tail) more)) in
    let many : length (take i columns) ≡ length (take i others) =
    length-take-le i columns inside ∙ sym (length-take-le i others (omega (arith, len, below))) in
    none next (tail ++ more) (same_columns (take i columns) (take i others) rest (column_bytes next ++ (tail ++ more)) many same).1

-- fewer than two bytes begin no column
pub no_column_short : (rest : List ℕ) → length rest < 2 → (x : KeyCol) (behind : List ℕ) → rest ≡ column_bytes x ++ behind → ⊥
no_column_short rest short x behind e = omega (arith, short, ap length e)

-- nor do bytes whose second is not a flag's
pub no_column_flag :
    (rest after : List ℕ) (place flag : ℕ) → rest ≡ place ∷ flag ∷ after → ((descending : Bool) → flag_byte descending ≡ flag → ⊥)
    → (x : KeyCol) (behind : List ℕ) → rest ≡ column_bytes x ++ behind → ⊥
no_column_flag rest after place flag here none x behind e =
    let e' : x.column ∷ flag_byte x.descending ∷ behind ≡ place ∷ flag ∷ after = sym e ∙ here in
    none x.descending cc

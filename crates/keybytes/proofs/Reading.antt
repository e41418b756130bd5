-- Reading a row from the left: what is read so far, and what the rest may still be.
use Rattle.std.proofs.Common.{◌≡◌, inl, inr, ℕ, ℤ, ◌^◌, ◌<◌, true, false, List, [], ◌∷◌, ◌++◌, length, take, drop, refl, ap, ap₂, sym, ◌∙◌, subst, arith}
use Rattle.std.proofs.Common.{append_assoc, append-nil, get_or, add-one, drop-cons, ◌+◌}
use Rattle.std.specs.Int.{w64, cast_unsigned, cast_signed, to_be_bytes, from_be_bytes}
use Rattle.std.proofs.Common.{FitsSigned}
use Rattle.std.proofs.lemmas.Int.{to_z-of_z, ints}
use Rattle.std.proofs.lemmas.Nat.{from_be_bytes-to_be_bytes_8}
use Rattle.std.proofs.lemmas.List.Elements.{All-head, All-tail, All-cons}
use Rattle.std.proofs.lemmas.Bool.{and_parts}
use Rattle.std.proofs.lemmas.Bool.Decides.{nat_tests}
use Rattle.std.proofs.Math.Seq.{take-append_seam, drop-append_seam}
use Rattle.keybytes.specs.Schemas.{are_columns}
use Rattle.keybytes.specs.declared.fault.Fault.{Fault}
use Rattle.keybytes.specs.Cells.{IsCell, fits, fits_kind}
use Rattle.keybytes.specs.Rows.{IsRow, cell_bytes, row_bytes, BeginsWith, BeginsTooLong, Spells, LeavesAtLongText, RefusesCell, RefusesRow}
use Rattle.keybytes.specs.declared.cell.Cell.{Cell}
use Rattle.keybytes.specs.declared.cell.Cell.TheVariants.{Null, Int, Text, Flag}
use Rattle.keybytes.specs.declared.kind.Kind.{Kind}
use Rattle.keybytes.specs.declared.kind.Kind.TheVariants.{Int as IntKind, Text as TextKind, Flag as FlagKind}
use Rattle.keybytes.proofs.Spelling.{length-fits}

-- two lists of one length, each with something behind it
pub same_split : (xs ys us vs : List ℕ) → length xs ≡ length ys → xs ++ us ≡ ys ++ vs → (xs ≡ ys) × (us ≡ vs)
same_split xs ys us vs len e = (
  sym (take-append_seam xs us) ∙ ap₂ take len e ∙ take-append_seam ys vs,
  sym (drop-append_seam xs us) ∙ ap₂ drop len e ∙ drop-append_seam ys vs,
)

-- a number's eight bytes tell it
pub same_number :
    (m n : ℤ) → FitsSigned w64 m → FitsSigned w64 n
    → to_be_bytes w64 (cast_unsigned w64 m) ≡ to_be_bytes w64 (cast_unsigned w64 n) → m ≡ n
same_number m n fits_m fits_n e =
    let below_m : cast_unsigned w64 m < 2 ^ 64 = omega (arith, ints, fits_m) in
    let below_n : cast_unsigned w64 n < 2 ^ 64 = omega (arith, ints, fits_n) in
    let same : cast_unsigned w64 m ≡ cast_unsigned w64 n =
    sym (from_be_bytes-to_be_bytes_8 (cast_unsigned w64 m) below_m)
    ∙ (ap (from_be_bytes w64) e ∙ from_be_bytes-to_be_bytes_8 (cast_unsigned w64 n) below_n) in
    sym (to_z-of_z w64 m fits_m) ∙ (ap (cast_signed w64) same ∙ to_z-of_z w64 n fits_n)

-- bytes begin with one cell of a column at most
pub same_cell :
    (kind : Kind) (a b : Cell) (x y bytes : List ℕ) → BeginsWith kind bytes a x → BeginsWith kind bytes b y → (a ≡ b) × (x ≡ y)
same_cell kind Null Null x y bytes p q = let e : 0 ∷ x ≡ 0 ∷ y = sym p.bytes_are ∙ q.bytes_are in (refl, cc)
same_cell IntKind (Int m) (Int n) x y bytes p q =
    let digits : ℤ → List ℕ = λ z. to_be_bytes w64 (cast_unsigned w64 z) in
    let e : 1 ∷ (digits m ++ x) ≡ 1 ∷ (digits n ++ y) = sym p.bytes_are ∙ q.bytes_are in
    let e' : digits m ++ x ≡ digits n ++ y = cc in
    let split = same_split (digits m) (digits n) x y refl e' in
    (ap Int (same_number m n p.held q.held split.0), split.1)
same_cell TextKind (Text s) (Text t) x y bytes p q =
    let e : 1 ∷ length s ∷ (s ++ x) ≡ 1 ∷ length t ∷ (t ++ y) = sym p.bytes_are ∙ q.bytes_are in
    let len : length s ≡ length t = cc in
    let e' : s ++ x ≡ t ++ y = cc in
    let split = same_split s t x y len e' in
    (ap Text split.0, split.1)
same_cell FlagKind (Flag true) (Flag true) x y bytes p q =
    let e : 1 ∷ 1 ∷ x ≡ 1 ∷ 1 ∷ y = sym p.bytes_are ∙ q.bytes_are in (refl, cc)
same_cell FlagKind (Flag false) (Flag false) x y bytes p q =
    let e : 1 ∷ 0 ∷ x ≡ 1 ∷ 0 ∷ y = sym p.bytes_are ∙ q.bytes_are in (refl, cc)
same_cell kind a b x y bytes p q = absurd (cc (p.fitting, q.fitting, sym p.bytes_are ∙ q.bytes_are))

-- a text that is too long is no cell
pub no_cell_too_long :
    (kind : Kind) (bytes : List ℕ) (cell : Cell) (rest : List ℕ) → kind ≡ TextKind → BeginsTooLong bytes
    → BeginsWith kind bytes cell rest → ⊥
no_cell_too_long kind bytes Null rest text long p = cc (sym long.bytes_are ∙ p.bytes_are)
no_cell_too_long kind bytes (Text t) rest text long p =
    let e : 1 ∷ long.len ∷ long.rest ≡ 1 ∷ length t ∷ (t ++ rest) = sym long.bytes_are ∙ p.bytes_are in
    let len : long.len ≡ length t = cc in
    omega (arith, long.above, p.held.1)
no_cell_too_long kind bytes cell rest text long p = cc (p.fitting, ap (λ (k : Kind). fits_kind k cell) text)

-- the cells read so far, of the columns before those that are left, and the bytes that are left
pub record HasRead (kinds : List Kind) (bytes : List ℕ) (cells : List Cell) (left : List Kind) (rest : List ℕ) : Type 0 where
  pub built : (more : List Cell) → Spells left rest more → Spells kinds bytes (cells ++ more)
  pub spelled : (row : List Cell) → Spells kinds bytes row → (more : List Cell) × ((row ≡ cells ++ more) × Spells left rest more)
  pub long : LeavesAtLongText left rest → LeavesAtLongText kinds bytes
  pub short : LeavesAtLongText kinds bytes → LeavesAtLongText left rest

spells-cons :
    (kind : Kind) (kinds : List Kind) (bytes rest : List ℕ) (cell : Cell) (more : List Cell) → BeginsWith kind bytes cell rest
    → Spells kinds rest more → Spells (kind ∷ kinds) bytes (cell ∷ more)
spells-cons kind kinds bytes rest cell more first spells = record {
  held = All-cons IsCell cell more first.held spells.held;
  fitting = rw (first.fitting, spells.fitting) refl;
  bytes_are = first.bytes_are ∙ ap (λ (xs : List ℕ). cell_bytes cell ++ xs) spells.bytes_are;
}

-- what spells a first column and more begins with the first column's cell
spells-split :
    (kind : Kind) (kinds : List Kind) (bytes rest : List ℕ) (cell : Cell) (row : List Cell) → BeginsWith kind bytes cell rest
    → Spells (kind ∷ kinds) bytes row → (more : List Cell) × ((row ≡ cell ∷ more) × Spells kinds rest more)
spells-split kind kinds bytes rest cell [] first spells = cc (spells.fitting)
spells-split kind kinds bytes rest cell (other ∷ more) first spells =
    let fitting = and_parts (fits_kind kind other) (fits kinds more) spells.fitting in
    let begins : BeginsWith kind bytes other (row_bytes more) =
    record { held = All-head IsCell other more spells.held; fitting = fitting.0; bytes_are = spells.bytes_are } in
    let same = same_cell kind other cell (row_bytes more) rest bytes begins first in (
      more,
      (
        ap (λ (x : Cell). x ∷ more) same.0,
        record { held = All-tail IsCell other more spells.held; fitting = fitting.1; bytes_are = sym same.1 },
      ),
    )

-- the columns that are left are the next one and those behind it
pub next_kind : (kinds : List Kind) (i : ℕ) → i < length kinds → drop i kinds ≡ get_or kinds i IntKind ∷ drop (i + 1) kinds
next_kind kinds i below = rw (add-one, drop-cons kinds i IntKind) refl

-- one cell more
pub has_read_more :
    (kinds : List Kind) (bytes : List ℕ) (cells : List Cell) (kind : Kind) (left : List Kind) (rest after : List ℕ) (cell : Cell)
    → HasRead kinds bytes cells (kind ∷ left) rest → BeginsWith kind rest cell after
    → HasRead kinds bytes (cells ++ cell ∷ []) left after
has_read_more kinds bytes cells kind left rest after cell had first = record {
  built = λ more spells.
      rw append_assoc (had.built (cell ∷ more) (spells-cons kind left rest after cell more first spells));
  spelled = λ row spells.
      let before = had.spelled row spells in
      let split = spells-split kind left rest after cell before.0 first before.1.1 in (
        split.0,
        (before.1.0 ∙ (ap (λ (xs : List Cell). cells ++ xs) split.1.0 ∙ sym (append_assoc cells (cell ∷ []) split.0)), split.1.1),
      );
  long = λ l. had.long (inr (cell, after, first, l));
  short = λ l. elim (had.short l) [
    | inl here ↦ absurd (no_cell_too_long kind rest cell after here.0 here.1 first)
    | inr there ↦ let same = same_cell kind there.0 cell there.1 after rest there.2 first in subst (LeavesAtLongText left) same.1 there.3
  ];
}

-- nothing that follows the cells read so far makes a row where the next cell is refused
pub refuses_row :
    (kinds : List Kind) (bytes : List ℕ) (cells : List Cell) (kind : Kind) (left : List Kind) (rest : List ℕ) (fault : Fault)
    → HasRead kinds bytes cells (kind ∷ left) rest → RefusesCell kind rest fault → RefusesRow kinds bytes fault
refuses_row kinds bytes cells kind left rest fault had refused = record {
  none = λ row spells. let before = had.spelled row spells in no_first kind left rest fault before.0 refused before.1.1;
  why = elim refused.why [
    | inl long ↦ inl (long.0, had.long (inl (long.1, long.2)))
    | inr shape ↦ inr (
      shape.0,
      λ l. elim (had.short l) [
        | inl here ↦ shape.1 here.0 here.1
        | inr there ↦ refused.none there.0 there.1 there.2
      ],
    )
  ];
} where
  no_first :
      (kind : Kind) (left : List Kind) (rest : List ℕ) (fault : Fault) (more : List Cell) → RefusesCell kind rest fault
      → Spells (kind ∷ left) rest more → ⊥
  no_first kind left rest fault [] refused spells = cc (spells.fitting)
  no_first kind left rest fault (cell ∷ more) refused spells =
      refused.none cell (row_bytes more) (record {
        held = All-head IsCell cell more spells.held;
        fitting = (and_parts (fits_kind kind cell) (fits left more) spells.fitting).0;
        bytes_are = spells.bytes_are;
      })

-- all columns are read, and all bytes
pub read_whole : (kinds : List Kind) (bytes : List ℕ) (cells : List Cell) → HasRead kinds bytes cells [] [] → Spells kinds bytes cells
read_whole kinds bytes cells had =
    let nothing : Spells [] [] [] = record { held = λ k d below. absurd (omega arith); fitting = refl; bytes_are = refl } in
    subst (Spells kinds bytes) (append-nil cells) (had.built [] nothing)

-- what the columns of a table spell is a row
pub IsRow-from_Spells : (kinds : List Kind) (bytes : List ℕ) (cells : List Cell) → are_columns kinds ≡ true → Spells kinds bytes cells → IsRow cells
IsRow-from_Spells kinds bytes cells columns spells =
    let len = length-fits kinds cells spells.fitting in
    record {
      some = grind (arith, nat_tests, len, columns);
      few = grind (arith, nat_tests, len, columns);
      each = spells.held;
    }

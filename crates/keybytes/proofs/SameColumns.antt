-- Columns of keys that are the same.
use Rattle.std.proofs.Common.{◌≡◌, ℕ, Bool, Decides, true, false, refl, sym, ap, ◌∙◌}
use mathlib.Core.Bool.{beq}
use Rattle.std.specs.Prelude.{◌==◌}
use Rattle.std.proofs.lemmas.Bool.{and_from, and_parts, eq-eqb, eqb-true}
use Rattle.keybytes.specs.contracts.key_col.KeyColPartialEq.TheImpl.{eq-value}
use Rattle.keybytes.specs.declared.key_col.KeyCol.{KeyCol}

flags-same : (a b : Bool) → beq a b ≡ true → a ≡ b
flags-same true true e = refl
flags-same false false e = refl
flags-same true false e = cc
flags-same false true e = cc

flags-refl : (a : Bool) → beq a a ≡ true
flags-refl true = refl
flags-refl false = refl

-- what the derived test of two columns tells
pub column_decides : (a b : KeyCol) → Decides (eq-value.it a b) (a ≡ b)
column_decides a b = (
  λ e.
      let parts = and_parts (a.column == b.column) (beq a.descending b.descending) e in
      let make : ℕ → Bool → KeyCol = λ c d. record { column = c; descending = d } in
      ap (λ c. make c a.descending) (eqb-true a.column b.column parts.0) ∙ ap (make b.column) (flags-same a.descending b.descending parts.1),
  λ e.
      and_from (a.column == b.column) (beq a.descending b.descending) (eq-eqb a.column b.column (ap (λ (c : KeyCol). c.column) e))
      (ap (beq a.descending) (sym (ap (λ (c : KeyCol). c.descending) e)) ∙ flags-refl a.descending),
)

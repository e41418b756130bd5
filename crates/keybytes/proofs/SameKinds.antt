-- Columns that are the same.
use Rattle.std.proofs.Common.{◌≡◌, List, Decides, refl}
use Rattle.std.specs.Cmp.Lexicographic.{pointwise_decides}
use Rattle.std.proofs.lemmas.Bool.{false≢true}
use Rattle.keybytes.specs.Schemas.{same_kind, same_kinds}
use Rattle.keybytes.specs.contracts.kind.KindPartialEq.TheImpl.{eq-value}
use Rattle.keybytes.specs.declared.kind.Kind.{Kind}
use Rattle.keybytes.specs.declared.kind.Kind.TheVariants.{Int, Text, Flag}

-- what the derived test of two kinds tells
pub kind_decides : (a b : Kind) → Decides (eq-value.it a b) (a ≡ b)
kind_decides Int Int = (λ e. refl, λ e. refl)
kind_decides Text Text = (λ e. refl, λ e. refl)
kind_decides Flag Flag = (λ e. refl, λ e. refl)
kind_decides a b = (λ e. absurd (false≢true e), λ e. cc)

same_kind_decides : (a b : Kind) → Decides (same_kind a b) (a ≡ b)
same_kind_decides Int Int = (λ e. refl, λ e. refl)
same_kind_decides Text Text = (λ e. refl, λ e. refl)
same_kind_decides Flag Flag = (λ e. refl, λ e. refl)
same_kind_decides a b = (λ e. absurd (false≢true e), λ e. cc)

-- the test of two lists of columns tells whether they are one
pub same_kinds_decides : (a b : List Kind) → Decides (same_kinds a b) (a ≡ b)
unfolding same_kinds
same_kinds_decides a b = pointwise_decides same_kind_decides a b

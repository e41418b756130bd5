-- Small facts that several files use.
use Rattle.std.proofs.Common.{◌≡◌, ◌≢◌, ◌⊎◌, inl, inr, ℕ, max, false, Option, Some, None, refl, sym, ap, ◌∙◌, arith}
use Rattle.std.proofs.lemmas.Bool.{cases_Bool, false≢true}
use Rattle.keybytes.specs.declared.rid.Rid.{Rid}
use Rattle.keybytes.specs.Rids.{same_rid}
use Rattle.keybytes.proofs.SameRids.{same_rid-true, same_rid-refl}

pub max_turned : (a b c : ℕ) → max a (max b c) ≡ max (max a b) c
max_turned a b c = omega arith

pub some_or_none : {A : Type 0} (o : Option A) → (o ≡ None) ⊎ ((x : A) × (o ≡ Some x))
some_or_none None = inl refl
some_or_none (Some x) = inr (x, refl)

pub same_rid_other : (a b : Rid) → b ≢ a → same_rid a b ≡ false
same_rid_other a b other = elim (cases_Bool (same_rid a b)) [
  | inl same ↦ absurd (other (sym (same_rid-true a b same)))
  | inr differs ↦ differs
]

pub rid_cases : (a b : Rid) → (b ≡ a) ⊎ (b ≢ a)
rid_cases a b = elim (cases_Bool (same_rid a b)) [
  | inl same ↦ inl (sym (same_rid-true a b same))
  | inr differs ↦ inr (λ e. false≢true (sym differs ∙ (ap (same_rid a) e ∙ same_rid-refl a)))
]

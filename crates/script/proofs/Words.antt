-- A field alone that is a word.
use Rattle.std.proofs.Common.{◌≡◌, ℕ, List, [], ◌∷◌, length, MatchOption, Option, Some, arith, refl, subst}
use Rattle.csv.specs.Records.{AllText}
use Rattle.script.specs.Misfits.{IsUnknown, first_of}
use Rattle.script.specs.InputLines.{IsWord}

pub word_alone : (fields : List (List ℕ)) (text : List ℕ) → length fields ≡ 1 → text ≡ first_of fields → IsUnknown (first_of fields) → AllText fields
    → (fields ≡ text ∷ []) × IsWord fields
word_alone [] text one same unknown all = absurd (omega (arith, one))
word_alone (field ∷ []) text one same unknown all = (rw same refl, (field, refl, all, unknown))
word_alone (field ∷ next ∷ rest) text one same unknown all = absurd (omega (arith, one))

-- what holds of a value that was found
pub of_found : {A : Type 0} (N : Type 0) (S : A → Type 0) (found : Option A) (value : A) → found ≡ Some value → MatchOption found N S → S value
of_found {A} N S found value is so = subst (λ (it : Option A). MatchOption it N S) is so

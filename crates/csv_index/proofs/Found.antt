-- Where names stand in a header.
use Rattle.std.proofs.Common.{◌≡◌, ◌≢◌, ◌⊎◌, ℕ, zero, suc, ◌+◌, ◌<◌, List, [], ◌∷◌, length, Some, inl, inr, refl, arith}
use Rattle.csv.specs.Records.{field_at}
use Rattle.csv_index.specs.Headers.{IsAbsent, IsFirstFrom, StandsAlone, StandsTwice}

inside : (header : List (List ℕ)) (name : List ℕ) (place : ℕ) → field_at header place ≡ Some name → place < length header
unfolding field_at
inside [] name place there = cc
inside (field ∷ header) name zero there = omega arith
inside (field ∷ header) name (suc place) there = let less = inside header name place there in omega (arith, less)

-- a name that stands at no place up to the last stands nowhere
pub missing : (header : List (List ℕ)) (name : List ℕ) → IsAbsent header name 0 (length header) → (place : ℕ) → field_at header place ≢ Some name
missing header name absent place there = absent place (omega arith) (inside header name place there) there

-- two numbers are the same, or one is less
sides : (a b : ℕ) → (a ≡ b) ⊎ ((a < b) ⊎ (b < a))
sides zero zero = inl refl
sides zero (suc b) = inr (inl (omega arith))
sides (suc a) zero = inr (inr (omega arith))
sides (suc a) (suc b) = elim (sides a b) [
  | inl same ↦ inl (omega (arith, same))
  | inr (inl less) ↦ inr (inl (omega (arith, less)))
  | inr (inr more) ↦ inr (inr (omega (arith, more)))
]

pub stands_alone : (header : List (List ℕ)) (name : List ℕ) (place : ℕ) → IsFirstFrom header name 0 place → IsAbsent header name (place + 1) (length header)
    → StandsAlone header name place
stands_alone header name place first absent = record {
  there = first.there;
  alone = λ other there. elim (sides other place) [
    | inl same ↦ same
    | inr (inl less) ↦ absurd (first.first other (omega arith) less there)
    | inr (inr more) ↦ absurd (absent other (omega (arith, more)) (inside header name other there) there)
  ];
}

pub stands_twice : (header : List (List ℕ)) (name : List ℕ) (place other : ℕ) → IsFirstFrom header name 0 place → IsFirstFrom header name (place + 1) other
    → StandsTwice header name
stands_twice header name place other first second =
    let onward = second.onward in
    record { first = place; second = other; apart = omega (arith, onward); there = first.there; again = second.there }

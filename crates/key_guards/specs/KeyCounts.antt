-- How often each key was taken, as pairs of a key and its count.
use Rattle.std.specs.Prelude.{◌≡◌, ℕ, ◌≢◌, List, IsSome, Option}
use Rattle.std.specs.Map.{lookup}
use Rattle.std.specs.Cmp.Lexicographic.{slice_cmp}
use Rattle.std.specs.Option.{unwrap_or}
use Rattle.std.specs.Ordering.{nat_cmp, is_eq}

abbrev pub count_at : List (List ℕ × ℕ) → List ℕ → Option ℕ
count_at counts key = lookup (λ k. is_eq (slice_cmp nat_cmp key k)) counts

-- how often it was taken, 0 of one that isn't there
abbrev pub count_of : List (List ℕ × ℕ) → List ℕ → ℕ
count_of counts key = unwrap_or (count_at counts key) 0

-- there is a place for its count
abbrev pub IsNoted : List (List ℕ × ℕ) → List ℕ → Type 0
IsNoted counts key = IsSome (count_at counts key)

-- the key has that count, and each other one keeps its own
pub record CountsOnly (old new : List (List ℕ × ℕ)) (key : List ℕ) (count : ℕ) : Type 0 where
  pub this_key : count_of new key ≡ count
  pub other_keys : (q : List ℕ) → q ≢ key → count_of new q ≡ count_of old q

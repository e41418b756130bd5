-- The order of pairs as a test, and the order of the heads of runs.
use Rattle.std.specs.Prelude.{◌≡◌, ◌<◌, ℕ, Bool, true, false, Option, Some, None, IsSome, List, length, get_or}
use Rattle.std.specs.Ordering.{is_lt}
use Rattle.keybytes.specs.Pairs.{pair_cmp}
use Rattle.keybytes.specs.declared.pair.Pair.{Pair}

-- the first pair stands before the second: by key, then by RID
abbrev pub is_before : Pair → Pair → Bool
is_before pair other = is_lt (pair_cmp pair other)

-- whether a run's head is given before another's: a run with no pair left is the last
abbrev pub is_ahead : Option Pair → Option Pair → Bool
is_ahead None other = false
is_ahead (Some pair) None = true
is_ahead (Some pair) (Some other) = is_before pair other

-- the head at i may be given before the one at j
abbrev pub MayLead : List (Option Pair) → ℕ → ℕ → Type 0
MayLead heads i j = is_ahead (get_or heads j None) (get_or heads i None) ≡ false

-- how many comparisons of two pairs tell which of two heads is given first: none where one of the runs has no pair left
abbrev pub compares_of : Option Pair → Option Pair → ℕ
compares_of None other = 0
compares_of (Some pair) None = 0
compares_of (Some pair) (Some other) = 1

-- each run has a pair left
abbrev pub NoneDone : List (Option Pair) → Type 0
NoneDone heads = (place : ℕ) → place < length heads → IsSome (get_or heads place None)

-- no run has a pair left
abbrev pub AllDone : List (Option Pair) → Type 0
AllDone heads = (place : ℕ) → get_or heads place None ≡ None

-- the heads, the place of the one that is given first, and how many comparisons of two pairs were made so far
pub record HeadsValue : Type 0 where
  pub heads : List (Option Pair)
  pub first : ℕ
  pub compares : ℕ

-- at this place is the head that is given first, a pair that no other head is before
pub record IsFirst (value : HeadsValue) (place : ℕ) : Type 0 where
  pub is : place ≡ value.first
  pub inside : place < length value.heads
  pub leads : (other : ℕ) → MayLead value.heads place other
  pub pair : Pair
  pub there : get_or value.heads place None ≡ Some pair

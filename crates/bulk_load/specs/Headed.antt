-- Sources that are merged: of each its head was taken already, if it had a pair.
use Rattle.std.specs.Prelude.{◌≡◌, ℕ, zero, suc, List, [], ◌∷◌, length, Option, Some, None}
use Rattle.keybytes.specs.declared.pair.Pair.{Pair}
use Rattle.run_merge.specs.Merging.{IsMerge}
use Rattle.bulk_load.specs.Each.{AreEachOnce}
use Rattle.run_spool.specs.Spools.{all_pairs}

-- what is left of a source, with its head in front
abbrev pub with_head : Option Pair → List Pair → List Pair
with_head None left = left
with_head (Some head) left = head ∷ left

-- the same of all sources, of which the first ones have their heads taken
abbrev pub with_heads : List (Option Pair) → List (List Pair) → List (List Pair)
with_heads [] lefts = lefts
with_heads (head ∷ heads) [] = []
with_heads (head ∷ heads) (left ∷ lefts) = with_head head left ∷ with_heads heads lefts

-- so many numbers from one on
abbrev pub numbers_from : ℕ → ℕ → List ℕ
numbers_from first zero = []
numbers_from first (suc count) = first ∷ numbers_from (suc first) count

-- the heads of these sources, each of its own source; of the pairs none is there twice
pub record AreHeadsOf (heads : List (Option Pair)) (lefts : List (List Pair)) : Type 0 where
  pub long : length heads ≡ length lefts
  pub merge : IsMerge (with_heads heads lefts) (numbers_from 0 (length lefts)) heads
  pub once : AreEachOnce (all_pairs (with_heads heads lefts))

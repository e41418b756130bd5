-- Runs that are merged, the heads that are kept of them, and what a step of the merge gives.
use Rattle.std.specs.Prelude.{◌≡◌, ℕ, ◌<◌, ◌==◌, nat_lt, Bool, true, false, List, [], ◌∷◌, All, length, get_or, slice_get, Option, Some, None, IsPermutation}
use Rattle.std.specs.List.{flat_map, list_any}
use Rattle.spool_ledger.specs.Accounts.{Stake}
use Rattle.keybytes.specs.declared.pair.Pair.{Pair}
use Rattle.run_spool.specs.Spools.{AreSorted, all_pairs}
use Rattle.run_merge.specs.Leading.{is_before}
use Rattle.run_merge.specs.declared.place.Place.{Place}

-- the run has a pair
abbrev pub has_pair : List Pair → Bool
has_pair run = nat_lt 0 (length run)

-- no pair is before this one
abbrev pub IsLeast : List Pair → Pair → Type 0
IsLeast pairs pair = All (λ other. is_before other pair ≡ false) pairs

-- what a step gives of the runs, and the runs that it leaves: the least of all pairs, which one run then has once less; or none,
-- where no run has a pair
abbrev pub Gives : List (List Pair) → Option Pair → List (List Pair) → Type 0
Gives old None new = (all_pairs old ≡ []) × (new ≡ old)
Gives old (Some pair) new = IsLeast (all_pairs old) pair × IsPermutation (all_pairs old) (pair ∷ all_pairs new)

-- what callers see of a merge: of each spool the pairs that are left in each closed run, the open run and the stake; how many
-- runs had a pair as the merge began, and how many comparisons of two pairs were made
pub record MergedValue : Type 0 where
  pub runs : List (List (List Pair))
  pub open_runs : List (List Pair)
  pub stakes : List (Option Stake)
  pub ways : ℕ
  pub compares : ℕ

-- the runs of all spools
abbrev pub all_runs : List (List (List Pair)) → List (List Pair)
all_runs spools = flat_map (λ runs. runs) spools

-- the first of a run, if it has a pair
abbrev pub head_of : List Pair → Option Pair
head_of run = slice_get run 0

-- the runs by number that had a pair as the merge began, where each stands, its head and the pair behind it, the place of the head
-- that is given first, and how many comparisons of two pairs were made
pub record LanesValue : Type 0 where
  pub runs : List ℕ
  pub places : List Place
  pub seconds : List (Option Pair)
  pub heads : List (Option Pair)
  pub first : ℕ
  pub compares : ℕ

-- each lane is a run of its own, and its head is that run's; a run without a lane has no pair
pub record IsMerge (runs : List (List Pair)) (lanes : List ℕ) (heads : List (Option Pair)) : Type 0 where
  pub sorted : AreSorted runs
  pub long : length heads ≡ length lanes
  pub inside : (k : ℕ) → k < length lanes → get_or lanes k 0 < length runs
  pub apart : (j k : ℕ) → j < k → k < length lanes → get_or lanes j 0 < get_or lanes k 0
  pub at : (k : ℕ) → k < length lanes → get_or heads k None ≡ head_of (get_or runs (get_or lanes k 0) [])
  pub cover : (i : ℕ) → i < length runs → 0 < length (get_or runs i []) → list_any (λ lane. lane == i) lanes ≡ true

-- the same of the first runs, as the merge begins
pub record IsStart (runs : List (List Pair)) (lanes : List ℕ) (heads : List (Option Pair)) (count : ℕ) : Type 0 where
  pub long : length heads ≡ length lanes
  pub inside : (k : ℕ) → k < length lanes → get_or lanes k 0 < count
  pub apart : (j k : ℕ) → j < k → k < length lanes → get_or lanes j 0 < get_or lanes k 0
  pub at : (k : ℕ) → k < length lanes → get_or heads k None ≡ head_of (get_or runs (get_or lanes k 0) [])
  pub cover : (i : ℕ) → i < count → 0 < length (get_or runs i []) → (k : ℕ) × (k < length lanes) × (get_or lanes k 0 ≡ i)

-- the pair behind the head of each lane, if its run has one
pub record AreSeconds (runs : List (List Pair)) (lanes : List ℕ) (seconds : List (Option Pair)) : Type 0 where
  pub long : length seconds ≡ length lanes
  pub at : (k : ℕ) → k < length lanes → get_or seconds k None ≡ slice_get (get_or runs (get_or lanes k 0) []) 1

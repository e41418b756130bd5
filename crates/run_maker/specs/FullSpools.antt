-- Spools that have no room left.
use Rattle.std.specs.Prelude.{◌≡◌, ◌≤◌, ◌+◌, ℕ, [], ◌∷◌, ◌++◌, List, IsPermutation, Some, get_or, length}
use Rattle.std.specs.List.{slice_get}
use Rattle.std.specs.List.Sorted.{IsSorted}
use Rattle.keybytes.specs.Pairs.{pair_cmp}
use Rattle.keybytes.specs.declared.pair.Pair.{Pair}
use Rattle.run_spool.specs.Spools.{all_pairs}
use Rattle.run_maker.specs.Spooling.{HasFullRunsMore}

-- these pairs are some of all, or all of them, each at most as often as it is there
abbrev pub AreSomeOf : List Pair → List Pair → Type 0
AreSomeOf pairs all = (others : List Pair) × IsPermutation (pairs ++ others) all

-- another run was to be closed: those that were closed since have 4,096 pairs each, and so many of the pairs or more are in none
pub record WantsRun (least : ℕ) (old : List (List Pair)) (pairs : List Pair) (now : List (List Pair)) : Type 0 where
  pub closed : HasFullRunsMore old now
  pub left : length (all_pairs now) + least ≤ length pairs

module _ {S : Type 0} (is_full : S → Pair → Type 0) (runs : S → List (List Pair)) (open_run : S → List Pair) where
  -- a spool is full of these pairs: it holds some of them and nothing else, and has no room left for one more of them; that one comes behind
  -- those of its open run, which stay in order with it and are no more than a run has
  pub record IsFullOf (pairs : List Pair) (spool : S) : Type 0 where
    pub pair : Pair
    pub held : AreSomeOf ((all_pairs (runs spool) ++ open_run spool) ++ pair ∷ []) pairs
    pub in_order : IsSorted pair_cmp (open_run spool ++ pair ∷ [])
    pub few : length (open_run spool ++ pair ∷ []) ≤ 4096
    pub full : is_full spool pair

  -- one of these spools, which had the old runs, is full of the pairs that are given for its index, and another run of so many was to be closed
  pub record HasFullOf (least : ℕ) (old : List (List (List Pair))) (AreGiven : ℕ → List Pair → Type 0) (spools : List S) : Type 0 where
    pub index : ℕ
    pub spool : S
    pub there : slice_get spools index ≡ Some spool
    pub pairs : List Pair
    pub given : AreGiven index pairs
    pub full : IsFullOf pairs spool
    pub wants : WantsRun least (get_or old index []) pairs (runs spool)

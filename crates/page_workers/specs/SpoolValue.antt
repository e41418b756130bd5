-- Spools of any kind, as callers of a build see them.
use Rattle.std.specs.Prelude.{◌≡◌, ℕ, List, [], get_or, map, Option, Some}
use Rattle.std.specs.List.{slice_get}
use Rattle.keybytes.specs.declared.pair.Pair.{Pair}
use Rattle.spool_ledger.specs.Accounts.{Stake}
use Rattle.run_spool.specs.Spools.{all_pairs}
use Rattle.run_maker.specs.FullSpools.{IsFullOf, WantsRun}
use Rattle.run_merge.specs.Merging.{all_runs}

-- a spool: its closed runs, its open run, and what stands behind it, if there is an account
pub record SpoolValue : Type 0 where
  pub runs : List (List Pair)
  pub open_run : List Pair
  pub stake : Option Stake

-- what callers see of a spool of any kind
abbrev pub spool_value : {S : Type 0} → (S → List (List Pair)) → (S → List Pair) → (S → Option Stake) → S → SpoolValue
spool_value runs open_run stake spool = record { runs = runs spool; open_run = open_run spool; stake = stake spool }

-- it was ended
abbrev pub ended_spool : SpoolValue → SpoolValue
ended_spool spool = record spool { runs = []; open_run = [] }

-- the closed runs of each of these spools, and their open runs
abbrev pub runs_of : List SpoolValue → List (List (List Pair))
runs_of spools = map (λ spool. spool.runs) spools

abbrev pub open_runs_of : List SpoolValue → List (List Pair)
open_runs_of spools = map (λ spool. spool.open_run) spools

-- the pairs of all their closed runs
abbrev pub pairs_in : List SpoolValue → List Pair
pairs_in spools = all_pairs (all_runs (runs_of spools))

-- what stands behind each
abbrev pub stakes_of : List SpoolValue → List (Option Stake)
stakes_of spools = map (λ spool. spool.stake) spools

module _
    {S : Type 0} (is_full : S → Pair → Type 0) (runs : S → List (List Pair)) (open_run : S → List Pair) (stake : S → Option Stake) where
  -- one of them, which had the old runs, is full of the pairs that are given for its index, and another run of so many was to be closed
  pub record HaveFullOf (least : ℕ) (old : List (List (List Pair))) (AreGiven : ℕ → List Pair → Type 0) (spools : List SpoolValue) : Type 0 where
    pub index : ℕ
    pub spool : S
    pub there : slice_get spools index ≡ Some (spool_value runs open_run stake spool)
    pub pairs : List Pair
    pub given : AreGiven index pairs
    pub full : IsFullOf is_full runs open_run pairs spool
    pub wants : WantsRun least (get_or old index []) pairs (runs spool)

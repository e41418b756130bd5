-- Spools of every kind.
use Rattle.std.specs.Prelude.{◌≡◌, ◌⊎◌, [], ◌∷◌, ◌++◌, ◌<◌, ◌==◌, ◌&&◌, Bool, List, All, length, Option, option_map, filter_map}
use Rattle.std.specs.List.{flat_map}
use Rattle.std.specs.List.Sorted.{IsSorted}
use Rattle.spool_ledger.specs.Accounts.{Share, Stake, share_in}
use Rattle.keybytes.specs.Pairs.{pair_cmp}
use Rattle.keybytes.specs.declared.fault.Fault.{Fault}
use Rattle.keybytes.specs.declared.fault.Fault.TheVariants.{NoPage}
use Rattle.keybytes.specs.declared.pair.Pair.{Pair}

-- the closed runs with the open one behind them, if it has anything
abbrev pub with_closed_run : {X : Type 0} → List (List X) → List X → List (List X)
with_closed_run runs [] = runs
with_closed_run runs (first ∷ run) = runs ++ (first ∷ run) ∷ []

-- no closed run is empty
abbrev pub NoneEmpty : {X : Type 0} → List (List X) → Type 0
NoneEmpty runs = All (λ run. 0 < length run) runs

-- the closed runs are intact, as where none of their pairs was freed, or there is none
abbrev pub NoneFreed : {S : Type 0} → (S → Type 0) → (S → List (List Pair)) → S → Type 0
NoneFreed is_intact runs spool = (runs spool ≡ []) ⊎ is_intact spool

-- each run is in order of key, then RID
abbrev pub AreSorted : List (List Pair) → Type 0
AreSorted runs = All (λ run. IsSorted pair_cmp run) runs

-- a spool has no room left for a pair, though its closed runs are intact and in order
abbrev pub IsFullIntact : {S : Type 0} → (S → Pair → Type 0) → (S → Type 0) → (S → List (List Pair)) → S → Pair → Type 0
IsFullIntact is_full is_intact runs spool pair = is_full spool pair × NoneFreed is_intact runs spool × AreSorted (runs spool)

-- whether there is no closed run, not even one whose pairs are all freed, and no pair in the open run
abbrev pub holds_nothing : List (List Pair) → List Pair → Bool
holds_nothing runs open_run = (length runs == 0) && (length open_run == 0)

-- the pairs of all runs
abbrev pub all_pairs : List (List Pair) → List Pair
all_pairs runs = flat_map (λ run. run) runs

-- the stakes that there are
abbrev pub stakes_in : List (Option Stake) → List Stake
stakes_in stakes = filter_map (λ stake. stake) stakes

-- whose pages stand behind them, and how many, where there are some
abbrev pub shares_in : List (Option Stake) → List Share
shares_in stakes = filter_map (λ stake. option_map share_in stake) stakes

-- the same pool, with no page
abbrev pub without_pages : Option Stake → Option Stake
without_pages stake = option_map (λ s. record { kind = s.kind; share = record { pool = s.share.pool; quota = 0 } }) stake

-- if a fault tells that a page is wanted, this holds
abbrev pub NoPageOnlyIf : Type 0 → Fault → Type 0
NoPageOnlyIf P fault = fault ≡ NoPage → P

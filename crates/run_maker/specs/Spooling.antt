-- Pairs that are sorted and spooled.
use Rattle.std.specs.Prelude.{◌≡◌, ◌+◌, ◌*◌, ◌%◌, List, ◌++◌, All, Contains, length, IsPermutation}
use Rattle.std.specs.List.Sorted.{IsSorted}
use Rattle.keybytes.specs.Pairs.{pair_cmp}
use Rattle.keybytes.specs.declared.fault.Fault.{Fault}
use Rattle.keybytes.specs.declared.fault.Fault.TheVariants.{Memory}
use Rattle.keybytes.specs.declared.pair.Pair.{Pair}
use Rattle.run_spool.specs.Spools.{all_pairs, with_closed_run}

-- the runs with one behind them that has the pairs in order; with no pair there is no run more
pub record Spooled (pairs : List Pair) (old new : List (List Pair)) : Type 0 where
  pub run : List Pair
  pub same : IsPermutation pairs run
  pub sorted : IsSorted pair_cmp run
  pub closed : new ≡ with_closed_run old run

-- these runs, and behind them runs of 4,096 pairs
abbrev pub HasFullRunsMore : List (List Pair) → List (List Pair) → Type 0
HasFullRunsMore old new = (more : List (List Pair)) × (new ≡ old ++ more) × All (λ run. length run ≡ 4096) more

-- what is held of an index, in the closed runs and in none yet, has these pairs more, as often as they are there; as soon as 4,096
-- are in no run they are one
pub record Adds (made : List Pair) (old_runs : List (List Pair)) (old_open : List Pair) (runs : List (List Pair)) (begun : List Pair) : Type 0 where
  pub all : IsPermutation ((all_pairs old_runs ++ old_open) ++ made) (all_pairs runs ++ begun)
  -- what is in no run yet was so before, or is one of these
  pub kept : All (Contains (old_open ++ made)) begun
  pub count : length begun % 4096 ≡ (length old_open + length made) % 4096
  -- each run more has 4,096 of them, behind those that were there
  pub full_runs : HasFullRunsMore old_runs runs
  pub runs_many : 4096 * length runs + length begun ≡ 4096 * length old_runs + (length old_open + length made)

-- if a fault tells that memory is wanted, this holds
abbrev pub MemoryOnlyIf : Type 0 → Fault → Type 0
MemoryOnlyIf P fault = fault ≡ Memory → P

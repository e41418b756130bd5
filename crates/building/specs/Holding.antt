-- The spools of a build: those that its workers have, and those that no worker has.
use Rattle.std.specs.Prelude.{◌≡◌, ℕ, ◌*◌, ◌<◌, Bool, if◌then◌else◌, List, [], ◌++◌, map, flat_map, length, Option, Some}
use Rattle.std.specs.List.{All, slice_get}
use Rattle.keybytes.specs.Keys.{KeySpecValue}
use Rattle.keybytes.specs.declared.kind.Kind.{Kind}
use Rattle.keybytes.specs.declared.pair.Pair.{Pair}
use Rattle.spool_ledger.specs.Accounts.{Stake}
use Rattle.run_spool.specs.Spools.{AreSorted, holds_nothing}
use Rattle.run_maker.specs.Making.{MakerValue, spec_at}
use Rattle.page_workers.specs.Holding.{HoldsPairs}
use Rattle.page_workers.specs.SpoolValue.{SpoolValue, runs_of}
use Rattle.page_workers.specs.Taking.{received_images}
use Rattle.page_workers.specs.WorkerValue.{WorkerValue}
use Rattle.build_events.specs.CoreState.{SpoolsState}
use Rattle.index_load.specs.Columns.{column}

-- the spools that the workers have, worker by worker
abbrev pub workers_spools : List WorkerValue → List SpoolValue
workers_spools workers = flat_map (λ worker. worker.spools) workers

-- all spools, in the order in which they were handed in
abbrev pub all_spools : List WorkerValue → List SpoolValue → List SpoolValue
all_spools workers spools = spools ++ workers_spools workers

-- spools as callers of the core see them; those that a build was given are not left for a next one
abbrev pub spools_state : Bool → List SpoolValue → SpoolsState
spools_state given spools = record {
  stakes = map (λ spool. spool.stake) spools;
  left = if given then [] else map (λ spool. holds_nothing spool.runs spool.open_run) spools;
}

-- spools that are handed in
abbrev pub spools_in : {S : Type 0} → (S → List (List Pair)) → (S → List Pair) → (S → Option Stake) → List S → SpoolsState
spools_in runs open_run stake spools = record { stakes = map stake spools; left = map (λ spool. holds_nothing (runs spool) (open_run spool)) spools }

-- a maker that has made nothing
abbrev pub fresh_maker : List Kind → List KeySpecValue → MakerValue
fresh_maker kinds specs = record { schema = kinds; specs = specs; begun = map (λ _. []) specs }

-- once they were handed over, the spools of the indexes that pass hold the pairs of the copies that their workers took, in closed runs
pub record HaveColumns (is_open : ℕ → Type 0) (specs : List KeySpecValue) (workers : List WorkerValue) (spools : List SpoolValue) : Type 0 where
  pub many : length spools ≡ length workers * length specs
  pub sorted : (index : ℕ) → index < length specs → is_open index → All AreSorted (runs_of (column index (length specs) spools))
  pub pairs : (index k : ℕ) (worker : WorkerValue) (spool : SpoolValue) → index < length specs → is_open index → slice_get workers k ≡ Some worker
      → slice_get (column index (length specs) spools) k ≡ Some spool
      → HoldsPairs (spec_at specs index) (received_images worker.maker.schema worker.intake) spool.runs []

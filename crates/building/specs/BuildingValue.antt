-- What stands beside a table while its indexes are built: the workers, their spools, and the work on each index.
use Rattle.std.specs.Prelude.{◌≡◌, ℕ, Bool, List, [], ◌++◌, length, map, set, replicate, is_some, false, Option, Some, None}
use Rattle.std.specs.List.{slice_get}
use Rattle.keybytes.specs.Keys.{KeySpecValue}
use Rattle.keybytes.specs.declared.fault.Fault.{Fault}
use Rattle.keybytes.specs.declared.pair.Pair.{Pair}
use Rattle.side_file.specs.declared.entry.Entry.{Entry}
use Rattle.side_file.specs.Ends.{TakeEnd}
use Rattle.page_workers.specs.IntakeValue.{IntakeValue}
use Rattle.page_workers.specs.SpoolValue.{SpoolValue, ended_spool}
use Rattle.page_workers.specs.WorkerValue.{WorkerValue}
use Rattle.build_events.specs.CoreState.{WorkerState, IndexState, WorkState, idle}
use Rattle.building.specs.Holding.{all_spools}
use Rattle.catch_up.specs.Built.{BuiltValue}

-- an index of a build: its pairs, once they are in order, and how many entries of its side-file were applied to them
pub record IndexValue : Type 0 where
  pub built : Option BuiltValue
  pub applied : ℕ

-- nothing was done on it
abbrev pub fresh_index : IndexValue
fresh_index = record { built = None; applied = 0 }

-- the work of a build
pub record WorkValue : Type 0 where
  -- the number of the build
  pub build : ℕ
  -- what makes the keys of its indexes
  pub specs : List KeySpecValue
  -- whether its workers have handed their spools over to the indexes, which can be loaded then
  pub handed : Bool
  pub indexes : List IndexValue
  pub spoiled : Option Fault

-- the work of the build with that number, of which nothing is done
abbrev pub fresh : ℕ → List KeySpecValue → WorkValue
fresh build specs = record { build = build; specs = specs; handed = false; indexes = replicate (length specs) fresh_index; spoiled = None }

-- the ends of a table's rings that take: those of the page rings are the workers' intakes
pub record EndsValue : Type 0 where
  pub intakes : List IntakeValue
  pub sides : List (TakeEnd Entry)

-- what stands beside a table: the workers of the build that runs, the intakes of the other page rings, the other ends of the side-files'
-- rings, the spools that no worker has, whether a build was given them, and its work
pub record BuildingValue : Type 0 where
  pub workers : List WorkerValue
  pub idle : List IntakeValue
  pub sides : List (TakeEnd Entry)
  pub spools : List SpoolValue
  pub given : Bool
  pub work : Option WorkValue

-- the intake of each page ring
abbrev pub intakes : List WorkerValue → List IntakeValue → List IntakeValue
intakes workers idle = map (λ worker. worker.intake) workers ++ idle

-- what callers see of a worker
abbrev pub worker_state : IntakeValue → WorkerState
worker_state worker = record { taken = worker.taken; sealed = worker.sealed }

-- and of an index
abbrev pub index_state : IndexValue → IndexState
index_state index = record { loaded = is_some index.built; applied = index.applied }

-- what callers see of work that goes on, or is spoiled
abbrev pub state_unless : Option Fault → List WorkerValue → WorkValue → WorkState
state_unless None workers work =
    record { workers = map (λ worker. worker_state worker.intake) workers; indexes = map index_state work.indexes; spoiled = None }
state_unless (Some fault) workers work = record { workers = []; indexes = map index_state work.indexes; spoiled = Some fault }

-- what callers see of the work
abbrev pub work_state : List WorkerValue → Option WorkValue → WorkState
work_state workers None = idle
work_state workers (Some work) = state_unless work.spoiled workers work

-- the work is given up: no ring has a worker, and the spools are ended
abbrev pub given_up : BuildingValue → BuildingValue
given_up building = record building {
  workers = [];
  idle = intakes building.workers building.idle;
  spools = map ended_spool (all_spools building.workers building.spools);
  work = None;
}

-- whether a specification, if there is one, is of a unique index
abbrev pub is_unique : Option KeySpecValue → Bool
is_unique None = false
is_unique (Some spec) = spec.unique

-- an index of the work with these pairs in order
abbrev pub with_pairs : WorkValue → ℕ → List Pair → BuiltValue
with_pairs work index pairs = record { build = work.build; unique = is_unique (slice_get work.specs index); pairs = pairs }

-- these pairs are the index's, in order, with so many entries applied
abbrev pub with_index : WorkValue → ℕ → List Pair → ℕ → WorkValue
with_index work index pairs applied =
    record work { indexes = set work.indexes index (record { built = Some (with_pairs work index pairs); applied = applied }) }

-- the pairs of an index are not in order
abbrev pub IsUnloaded : ℕ → WorkValue → Type 0
IsUnloaded k work = (index : IndexValue) → slice_get work.indexes k ≡ Some index → index.built ≡ None

-- What the work of a build keeps by itself, of whatever table it is: the pairs of what its workers received are in its spools or its trees,
-- and what the rings of its side-files gave is applied to these trees.
use Rattle.std.specs.Prelude.{◌≡◌, ℕ, ◌<◌, true, false, List, [], get_or, flat_map, length, Bool, Option, Some, None}
use Rattle.std.specs.FinMap.{keys}
use Rattle.std.specs.List.{All, slice_get}
use Rattle.keybytes.specs.Keys.{KeySpecValue}
use Rattle.keybytes.specs.Pairs.{set_of}
use Rattle.keybytes.specs.declared.pair.Pair.{Pair}
use Rattle.side_file.specs.Ends.{RingId}
use Rattle.side_file.specs.declared.entry.Entry.{Entry}
use Rattle.heap_table.specs.Images.{ImageValue}
use Rattle.visibility.specs.Applied.{apply_entries}
use Rattle.visibility.specs.SideEntries.{SideEntry}
use Rattle.catch_up.specs.Built.{BuiltValue, told_to}
use Rattle.run_maker.specs.Making.{spec_at}
use Rattle.page_workers.specs.Holding.{HoldsOpen}
use Rattle.page_workers.specs.ImagePairs.{HavePairs}
use Rattle.page_workers.specs.SpoolValue.{SpoolValue, pairs_in}
use Rattle.side_file.specs.Ends.{TakeEnd}
use Rattle.page_workers.specs.Taking.{received_images, unsealed_images}
use Rattle.page_workers.specs.WorkerValue.{IsCounting, IsHolding, WorkerValue}
use Rattle.index_load.specs.Columns.{column}
use Rattle.bulk_load.specs.Each.{AreEachOnce}
use Rattle.building.specs.BuildingValue.{IndexValue, IsUnloaded, WorkValue}
use Rattle.building.specs.Holding.{HaveColumns}

-- the images of its build that each worker received, worker after worker
abbrev pub all_received : List WorkerValue → List ImageValue
all_received workers = flat_map (λ worker. received_images worker.maker.schema worker.intake) workers

-- in order they are the pairs on all images that the workers received, with these entries applied to them
pub record ArePairsOf (spec : KeySpecValue) (workers : List WorkerValue) (entries : List SideEntry) (pairs : List Pair) : Type 0 where
  pub made : List Pair
  pub received : HavePairs spec (all_received workers) made
  pub applied : pairs ≡ keys (apply_entries entries (set_of made))

-- an index of that build and specification, beside the end of its side-file's ring that takes: until its pairs are in order that end took
-- no entry of the build, and from then on those that it took are applied to them
pub record IsIndexOf (build : ℕ) (spec : KeySpecValue) (workers : List WorkerValue) (end : TakeEnd Entry) (index : IndexValue) : Type 0 where
  pub none_before : index.built ≡ None → told_to build end.received ≡ []
  pub of_build : (built : BuiltValue) → index.built ≡ Some built → built.build ≡ build
  pub of_spec : (built : BuiltValue) → index.built ≡ Some built → built.unique ≡ spec.unique
  pub loaded : (built : BuiltValue) → index.built ≡ Some built → ArePairsOf spec workers (told_to build end.received) built.pairs

-- each worker has the number of its place
abbrev pub AreNumbered : List WorkerValue → Type 0
AreNumbered workers = (place : ℕ) (worker : WorkerValue) → slice_get workers place ≡ Some worker → worker.number ≡ place

-- the worker has the ring of its number, of these
abbrev pub HasItsRing : List RingId → WorkerValue → Type 0
HasItsRing page_rings worker = slice_get page_rings worker.number ≡ Some worker.intake.end.ring

-- what a worker of that table keeps, whatever it was asked
pub record KeepsLaws (page_rings : List RingId) (worker : WorkerValue) : Type 0 where
  pub ring : HasItsRing page_rings worker
  pub begun : length worker.maker.begun ≡ length worker.maker.specs
  pub columns : All (λ spec. spec.kinds ≡ worker.maker.schema) worker.maker.specs
  pub counting : worker.fault ≡ None → IsCounting worker.intake worker.maker
  pub holding : worker.fault ≡ None → worker.handed ≡ false → IsHolding worker.intake worker.maker worker.spools

-- a worker of that build of these indexes which goes on, with the number of its place; its spools are with it, or were handed over
pub record IsWorkerAt (build : ℕ) (specs : List KeySpecValue) (handed : Bool) (place : ℕ) (worker : WorkerValue) : Type 0 where
  pub number : worker.number ≡ place
  pub fine : worker.fault ≡ None
  pub of_build : worker.intake.build ≡ build
  pub specs_are : worker.maker.specs ≡ specs
  pub spools_are : worker.handed ≡ handed

-- so is each of these
abbrev pub AreWorkers : ℕ → List KeySpecValue → Bool → List WorkerValue → Type 0
AreWorkers build specs handed workers =
    (place : ℕ) (worker : WorkerValue) → slice_get workers place ≡ Some worker → IsWorkerAt build specs handed place worker

-- no run of the worker is open
abbrev pub IsClosed : WorkerValue → Type 0
IsClosed worker = All (λ begun. begun ≡ []) worker.maker.begun

-- a worker that handed its spools over, all whose runs are closed; what it took since its last seal fills whole runs
pub record HasHanded (specs : List KeySpecValue) (worker : WorkerValue) : Type 0 where
  pub closed : IsClosed worker
  pub none : worker.spools ≡ []
  pub columns : All (λ spec. spec.kinds ≡ worker.maker.schema) worker.maker.specs
  pub counting : IsCounting worker.intake worker.maker
  pub opened : (i : ℕ) → i < length specs
      → HoldsOpen (spec_at specs i) (unsealed_images worker.maker.schema worker.intake) (get_or worker.maker.begun i [])

-- so it is of the pairs of each index that isn't in order
abbrev pub HaveEachOnce : WorkValue → List SpoolValue → Type 0
HaveEachOnce work spools =
    (index : ℕ) → index < length work.specs → IsUnloaded index work → AreEachOnce (pairs_in (column index (length work.specs) spools))

-- what the work of a build that goes on keeps, with its workers, the spools that no worker has, and the ends of its side-files' rings
pub record IsKept (workers : List WorkerValue) (sides : List (TakeEnd Entry)) (spools : List SpoolValue) (work : WorkValue) : Type 0 where
  pub many : length work.indexes ≡ length work.specs
  pub placed : AreWorkers work.build work.specs work.handed workers
  pub indexes : (k : ℕ) (spec : KeySpecValue) (end : TakeEnd Entry) (index : IndexValue) → slice_get work.specs k ≡ Some spec
      → slice_get sides k ≡ Some end → slice_get work.indexes k ≡ Some index → IsIndexOf work.build spec workers end index
  -- until they hand their spools over each spool is with its worker, and no index is in order
  pub lent : work.handed ≡ false → spools ≡ []
  pub unloaded : work.handed ≡ false → All (λ index. index.built ≡ None) work.indexes
  -- from then on no worker has one, and those of an index that isn't in order hold its pairs, each once
  pub handed : work.handed ≡ true → All (HasHanded work.specs) workers
  pub columns : work.handed ≡ true → HaveColumns (λ index. IsUnloaded index work) work.specs workers spools
  pub once : work.handed ≡ true → HaveEachOnce work spools

-- so it is of the work, if there is any, until it is spoiled
abbrev pub KeepsWork : List WorkerValue → List (TakeEnd Entry) → List SpoolValue → Option WorkValue → Type 0
KeepsWork workers sides spools None = Unit {0}
KeepsWork workers sides spools (Some work) = work.spoiled ≡ None → IsKept workers sides spools work

-- Loads of a build's indexes, each by itself.
use Rattle.std.specs.Prelude.{◌≡◌, ℕ, suc, ◌*◌, ◌<◌, List, [], ◌∷◌, length, map, true, Option, Some, None, IsPermutation}
use Rattle.std.specs.List.{All, slice_get}
use Rattle.std.specs.Option.{option_map}
use Rattle.keybytes.specs.Faults.{first_cause}
use Rattle.keybytes.specs.Pairs.{AreOrdered}
use Rattle.keybytes.specs.declared.fault.Fault.{Fault}
use Rattle.keybytes.specs.declared.fault.Fault.TheVariants.{Memory}
use Rattle.keybytes.specs.declared.pair.Pair.{Pair}
use Rattle.page_workers.specs.SpoolValue.{SpoolValue, ended_spool, pairs_in, stakes_of}
use Rattle.catch_up.specs.Built.{BuiltValue}
use Rattle.index_load.specs.Columns.{column}
use Rattle.index_load.specs.IndexLoad.{IndexLoadValue, IsLoadOf, without_spools}
use Rattle.building.specs.BuildingValue.{BuildingValue, IndexValue, WorkValue, is_unique, with_pairs}
use Rattle.building.specs.Keeping.{IsKept}

-- of loads that were refused the first one's fault
abbrev pub first_fault_of : List IndexLoadValue → Option Fault
first_fault_of [] = None
first_fault_of (load ∷ loads) = first_cause load.fault (first_fault_of loads)

-- the load of the index of that number, before it begins
abbrev pub load_at : WorkValue → List SpoolValue → ℕ → IndexLoadValue
load_at work spools index = record {
  build = work.build;
  unique = is_unique (slice_get work.specs index);
  spools = column index (length work.specs) spools;
  built = None;
  fault = None;
}

-- the load of the index of that number is done, and has its index
pub record IsDoneAt (work : WorkValue) (spools : List SpoolValue) (index : ℕ) (load : IndexLoadValue) : Type 0 where
  pub built : BuiltValue
  pub there : load.built ≡ Some built
  pub its : IsLoadOf (load_at work spools index) built

-- so are those of all indexes of the work
pub record AreDone (work : WorkValue) (spools : List SpoolValue) (loads : List IndexLoadValue) : Type 0 where
  pub many : length loads ≡ length work.specs
  pub each : (index : ℕ) (load : IndexLoadValue) → slice_get loads index ≡ Some load → IsDoneAt work spools index load

-- loads gave their spools back, worker by worker; the fault of the first that was refused is told
pub record AreHome (workers : ℕ) (loads new : List IndexLoadValue) (fault : Option Fault) (spools : List SpoolValue) : Type 0 where
  pub left : new ≡ map without_spools loads
  pub first : fault ≡ first_fault_of loads
  pub back : (index : ℕ) (load : IndexLoadValue) → slice_get loads index ≡ Some load → column index (length loads) spools ≡ load.spools
  pub many : length spools ≡ workers * length loads

-- the index of a load to which no entry was applied
abbrev pub index_from : IndexLoadValue → IndexValue
index_from load = record { built = load.built; applied = 0 }

-- all indexes of a build can be loaded: it goes on, the spools were handed over, and none is loaded
pub record CanLoadAll (building : BuildingValue) : Type 0 where
  pub work : WorkValue
  pub runs : building.work ≡ Some work
  pub fine : work.spoiled ≡ None
  pub loads : work.handed ≡ true
  pub none : All (λ index. index.built ≡ None) work.indexes

-- the loads of all indexes of a build that goes on are lent, with all its spools
pub record AreLent (building : BuildingValue) (loads : List IndexLoadValue) : Type 0 where
  pub work : WorkValue
  pub runs : building.work ≡ Some work
  pub fine : work.spoiled ≡ None
  pub going : work.handed ≡ true
  pub none : All (λ index. index.built ≡ None) work.indexes
  pub kept : IsKept building.workers building.sides building.spools work
  pub many : length loads ≡ length work.specs
  pub each : (index : ℕ) → index < length work.specs → slice_get loads index ≡ Some (load_at work building.spools index)

-- what is left of that build meanwhile: it has no spool, and is spoiled
abbrev pub without_loads : BuildingValue → BuildingValue
without_loads building = record building { spools = []; work = option_map (λ (work : WorkValue). record work { spoiled = Some Memory }) building.work }

-- a build whose loads are lent: as it was then, and the loads as they were then
pub record WithoutLoadsValue : Type 0 where
  pub was : BuildingValue
  pub loads : List IndexLoadValue

-- from an index on, the indexes of the work with these pairs in order
abbrev pub loaded_from : WorkValue → ℕ → List (List Pair) → List IndexValue
loaded_from work index [] = []
loaded_from work index (pairs ∷ rest) = record { built = Some (with_pairs work index pairs); applied = 0 } ∷ loaded_from work (suc index) rest

-- the pairs of all indexes are put in order, and all spools ended
pub record HasLoadedAll (old new : BuildingValue) : Type 0 where
  pub work : WorkValue
  pub runs : old.work ≡ Some work
  pub pairs : List (List Pair)
  pub many : length pairs ≡ length work.specs
  pub moved : (index : ℕ) (own : List Pair) → slice_get pairs index ≡ Some own
      → IsPermutation (pairs_in (column index (length work.specs) old.spools)) own
  pub ordered : All AreOrdered pairs
  pub left : new ≡ record old { spools = map ended_spool old.spools; work = Some (record work { indexes = loaded_from work 0 pairs }) }

-- a load was refused: the work is spoiled, the spools may be other but for their stakes, and nothing else changed
pub record LoadsStopped (old : BuildingValue) (fault : Fault) (new : BuildingValue) : Type 0 where
  pub work : WorkValue
  pub runs : old.work ≡ Some work
  pub spools : List SpoolValue
  pub stakes : stakes_of spools ≡ stakes_of old.spools
  pub left : new ≡ record old { spools = spools; work = Some (record work { spoiled = Some fault }) }

-- What the workers of a build do, and the entries that are applied to its indexes, and what that leaves beside the table.
use Rattle.std.specs.Prelude.{◌≡◌, ◌⊎◌, ℕ, ◌+◌, ◌^◌, ◌<◌, ◌≤◌, List, [], ◌++◌, length, set, map, take, drop, is_some, true, false, Some, None, IsPermutation}
use Rattle.std.specs.List.{All, slice_get}
use Rattle.keybytes.specs.declared.fault.Fault.{Fault}
use Rattle.keybytes.specs.declared.pair.Pair.{Pair}
use Rattle.keybytes.specs.Pairs.{AreOrdered, set_of}
use Rattle.side_file.specs.Ends.{PutEnd}
use Rattle.side_file.specs.declared.entry.Entry.{Entry}
use Rattle.visibility.specs.Applied.{apply_entries}
use Rattle.catch_up.specs.Built.{BuiltValue, MayWant, told_to}
use Rattle.side_file.specs.Ends.{TakeEnd}
use Rattle.page_workers.specs.SpoolValue.{SpoolValue, pairs_in, stakes_of}
use Rattle.page_workers.specs.WorkerValue.{WorkerValue}
use Rattle.index_load.specs.Columns.{column, other_columns, ended_column}
use Rattle.table_scan.specs.SideFiles.{HasLookedAtSide, SeesSide}
use Rattle.building.specs.BuildingValue.{BuildingValue, WorkValue, IndexValue, with_index, with_pairs}
use Rattle.building.specs.Keeping.{HaveEachOnce, IsClosed}
use Rattle.building.specs.Holding.{all_spools, workers_spools}

-- a worker without its spools
abbrev pub handed_over : WorkerValue → WorkerValue
handed_over worker = record worker { spools = []; handed = true }

-- the workers of a build that goes on may hand their spools over: none did, no run is open, and no pair of an index is there twice
pub record CanHandOver (building : BuildingValue) : Type 0 where
  pub work : WorkValue
  pub runs : building.work ≡ Some work
  pub fine : work.spoiled ≡ None
  pub scans : work.handed ≡ false
  pub closed : All IsClosed building.workers
  -- no pair is there twice, as no page was read twice
  pub once : HaveEachOnce work (workers_spools building.workers)

-- the workers of the build handed their spools over, for the loads of its indexes
pub record HasHandedOver (old new : BuildingValue) : Type 0 where
  pub work : WorkValue
  pub runs : old.work ≡ Some work
  pub left : new ≡ record old {
    workers = map handed_over old.workers;
    spools = all_spools old.workers old.spools;
    work = Some (record work { handed = true });
  }

-- the pairs of the index's spools are put in order, and these spools ended; answered with the number of pairs
pub record HasSorted (index : ℕ) (work : WorkValue) (old : BuildingValue) (count : ℕ) (new : BuildingValue) : Type 0 where
  pub pairs : List Pair
  pub moved : IsPermutation (pairs_in (column index (length work.specs) old.spools)) pairs
  pub ordered : AreOrdered pairs
  pub counted : count ≡ length pairs
  pub left : new ≡ record old { spools = ended_column index (length work.specs) old.spools; work = Some (with_index work index pairs 0) }

-- the pairs of an index can be put in order: its build goes on, and the spools were handed over
pub record CanLoad (index : ℕ) (building : BuildingValue) : Type 0 where
  pub work : WorkValue
  pub runs : building.work ≡ Some work
  pub there : index < length work.specs
  pub fine : work.spoiled ≡ None
  pub loads : work.handed ≡ true

-- a load of an index was refused: the work is spoiled, the spools of the index may be other but for their stakes, and nothing else changed
pub record LoadStopped (index : ℕ) (old : BuildingValue) (fault : Fault) (new : BuildingValue) : Type 0 where
  pub work : WorkValue
  pub runs : old.work ≡ Some work
  pub spools : List SpoolValue
  pub stakes : stakes_of spools ≡ stakes_of old.spools
  pub others : other_columns index (length work.specs) spools ≡ other_columns index (length work.specs) old.spools
  pub left : new ≡ record old { spools = spools; work = Some (record work { spoiled = Some fault }) }

-- a load of an index: its pairs are put in order, or were so before
pub record HasLoaded (index : ℕ) (old : BuildingValue) (count : ℕ) (new : BuildingValue) : Type 0 where
  pub work : WorkValue
  pub runs : old.work ≡ Some work
  pub it : IndexValue
  pub there : slice_get work.indexes index ≡ Some it
  pub again : is_some it.built ≡ true → (count ≡ 0) × (new ≡ old)
  pub first : it.built ≡ None → HasSorted index work old count new

-- an index of a build whose pairs are in order, with the end of its side-file's ring that takes
pub record IsTakingEntries (index : ℕ) (building : BuildingValue) : Type 0 where
  pub work : WorkValue
  pub runs : building.work ≡ Some work
  pub it : IndexValue
  pub there : slice_get work.indexes index ≡ Some it
  pub built : BuiltValue
  pub loaded : it.built ≡ Some built
  pub end : TakeEnd Entry
  pub at : slice_get building.sides index ≡ Some end

-- the next entries that the index's ring is seen to have can be applied, so many of them: its build goes on
pub record CanApply (index count : ℕ) (building : BuildingValue) : Type 0 where
  pub taking : IsTakingEntries index building
  pub fine : taking.work.spoiled ≡ None
  pub seen : count ≤ length taking.end.known

-- the first so many of them were taken from the ring, and those of its build were applied to the index
pub record HasApplied (index : ℕ) (old : BuildingValue) (count : ℕ) (new : BuildingValue) : Type 0 where
  pub taking : IsTakingEntries index old
  -- it is the build's, and keeps a tally where the index is unique
  pub own : taking.built ≡ with_pairs taking.work index taking.built.pairs
  pub pairs : List Pair
  pub applied : set_of pairs ≡ apply_entries (told_to taking.built.build (take count taking.end.known)) (set_of taking.built.pairs)
  pub ordered : AreOrdered pairs
  pub end : TakeEnd Entry
  pub ring : end.ring ≡ taking.end.ring
  pub received : end.received ≡ taking.end.received ++ take count taking.end.known
  -- the others are still seen, and more may be
  pub more : List Entry
  pub known : end.known ≡ drop count taking.end.known ++ more
  pub left : new ≡ record old {
    sides = set old.sides index end;
    work = Some (with_index taking.work index pairs (taking.it.applied + count));
  }

-- to apply the entry that the index's ring is seen to have behind so many may take memory: it puts a pair in, or a tally is told of it
pub record MayTakeMemoryFor (index count : ℕ) (building : BuildingValue) : Type 0 where
  pub taking : IsTakingEntries index building
  pub next : Entry
  pub there : slice_get taking.end.known count ≡ Some next
  pub needs : MayWant taking.built next

-- with the entry behind so many more would be applied to the index than a number counts
pub record CountsNoMore (index count : ℕ) (building : BuildingValue) : Type 0 where
  pub taking : IsTakingEntries index building
  pub past : 2 ^ 64 ≤ taking.it.applied + (count + 1)

-- memory was wanted for one of the next so many entries, or it couldn't be counted; those before it were applied
pub record StopsApplying (index count : ℕ) (old new : BuildingValue) : Type 0 where
  pub entries : ℕ
  pub fewer : entries < count
  pub applied : HasApplied index old entries new
  pub needed : MayTakeMemoryFor index entries old ⊎ CountsNoMore index entries old

-- both ends of the ring of that side-file were looked at, so many entries wait in it, and nothing else changed
pub record SideIsSeen (index waiting : ℕ) (put new_put : PutEnd Entry) (old new : BuildingValue) : Type 0 where
  pub end : TakeEnd Entry
  pub there : slice_get old.sides index ≡ Some end
  pub after : TakeEnd Entry
  pub looked : HasLookedAtSide put end new_put after
  pub sees : SeesSide waiting new_put after
  pub left : new ≡ record old { sides = set old.sides index after }

-- that side-file's ring was looked into, where so many entries are now seen, and nothing else changed
pub record HasSeenEntries (index : ℕ) (old : BuildingValue) (seen : ℕ) (new : BuildingValue) : Type 0 where
  pub end : TakeEnd Entry
  pub there : slice_get old.sides index ≡ Some end
  -- behind those that were seen before
  pub more : List Entry
  pub counted : seen ≡ length (end.known ++ more)
  pub left : new ≡ record old { sides = set old.sides index (record end { known = end.known ++ more }) }

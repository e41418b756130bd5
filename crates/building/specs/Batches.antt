-- What batches of entries leave of the indexes of a build.
use Rattle.std.specs.Prelude.{◌≡◌, ℕ, ◌+◌, ◌≤◌, List, [], ◌++◌, length, map, Some, None, IsSome}
use Rattle.std.specs.List.{All, sum_by}
use Rattle.keybytes.specs.Pairs.{AreOrdered}
use Rattle.keybytes.specs.declared.fault.Fault.{Fault}
use Rattle.side_file.specs.Ends.{TakeEnd}
use Rattle.side_file.specs.declared.entry.Entry.{Entry}
use Rattle.catch_up.specs.Applying.{Applied}
use Rattle.catch_up.specs.Built.{BuiltValue}
use Rattle.table_scan.specs.SideFiles.{taken_rings}
use Rattle.building.specs.BuildingValue.{BuildingValue, IndexValue, WorkValue}

-- these entries were applied to the pairs of an index, and are counted
pub record BatchIsIn (entries : List Entry) (old : IndexValue) (count : ℕ) (new : IndexValue) : Type 0 where
  pub built : BuiltValue
  pub loaded : old.built ≡ Some built
  pub after : BuiltValue
  pub applied : Applied entries built after
  pub ordered : AreOrdered after.pairs
  pub all : count ≡ length entries
  pub left : new ≡ record { built = Some after; applied = old.applied + count }

-- a batch can be applied to each index of a build: it goes on, has few indexes, and the pairs of all are in order
pub record CanApplyBatches (building : BuildingValue) : Type 0 where
  pub work : WorkValue
  pub runs : building.work ≡ Some work
  pub fine : work.spoiled ≡ None
  pub few : length work.indexes ≤ 8
  pub loaded : All (λ index. IsSome index.built) work.indexes

-- an index with the end of its ring, what that found in the ring beside what it knew, and the index then
pub record IndexBatch : Type 0 where
  pub index : IndexValue
  pub end : TakeEnd Entry
  pub found : List Entry
  pub new : IndexValue

-- all entries that wait for the index
abbrev pub entries_of : IndexBatch → List Entry
entries_of batch = batch.end.known ++ batch.found

-- the end once it took them
abbrev pub end_after : IndexBatch → TakeEnd Entry
end_after batch = record { ring = batch.end.ring; received = batch.end.received ++ entries_of batch; known = [] }

-- they were applied to the index
abbrev pub IsApplied : IndexBatch → Type 0
IsApplied batch = BatchIsIn (entries_of batch) batch.index (length (entries_of batch)) batch.new

-- a batch was applied to each of these indexes, with the end at its place, of so many entries together; the ends behind them are as they were
pub record AreApplied
    (indexes : List IndexValue) (ends : List (TakeEnd Entry)) (count : ℕ) (new : List IndexValue) (new_ends : List (TakeEnd Entry))
    : Type 0 where
  pub batches : List IndexBatch
  pub each : All IsApplied batches
  pub counted : count ≡ sum_by (λ batch. length (entries_of batch)) batches
  pub indexes_are : map (λ batch. batch.index) batches ≡ indexes
  pub new_are : map (λ batch. batch.new) batches ≡ new
  pub rest : List (TakeEnd Entry)
  pub ends_are : map (λ batch. batch.end) batches ++ rest ≡ ends
  pub new_ends_are : map end_after batches ++ rest ≡ new_ends

-- all entries that were seen in the rings of a build's indexes were taken, and those of its build were applied, so many together
pub record HasAppliedBatches (old : BuildingValue) (count : ℕ) (new : BuildingValue) : Type 0 where
  pub work : WorkValue
  pub runs : old.work ≡ Some work
  pub indexes : List IndexValue
  pub ends : List (TakeEnd Entry)
  pub applied : AreApplied work.indexes old.sides count indexes ends
  pub left : new ≡ record old { sides = ends; work = Some (record work { indexes = indexes }) }

-- some batch was refused: the work is spoiled, of its indexes nothing is known, and the ends of their rings may have taken some entries
pub record BatchesStopped (old : BuildingValue) (fault : Fault) (new : BuildingValue) : Type 0 where
  pub work : WorkValue
  pub runs : old.work ≡ Some work
  pub indexes : List IndexValue
  pub many : length indexes ≡ length work.indexes
  pub ends : List (TakeEnd Entry)
  pub rings : taken_rings ends ≡ taken_rings old.sides
  pub left : new ≡ record old { sides = ends; work = Some (record work { indexes = indexes; spoiled = Some fault }) }

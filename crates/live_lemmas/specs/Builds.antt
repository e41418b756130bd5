-- What a table keeps between events, and how it goes with what stands beside it.
use Rattle.std.specs.Prelude.{◌≡◌, ℕ, ◌+◌, ◌==◌, ◌<◌, ◌≤◌, List, ◌++◌, length, map, min, take, set, is_some, true, false, Option, drop}
use Rattle.std.specs.Prelude.{Some, None}
use Rattle.std.specs.List.{All, slice_get}
use Rattle.keybytes.specs.Faults.{first_cause}
use Rattle.keybytes.specs.Keys.{KeySpecValue}
use Rattle.keybytes.specs.declared.fault.Fault.{Fault}
use Rattle.keybytes.specs.declared.fault.Fault.TheVariants.{RingFull}
use Rattle.heap_log.specs.declared.record.LogRec.{LogRec}
use Rattle.heap_table.specs.HeapState.{HeapState}
use Rattle.side_file.specs.Ends.{PutEnd, RingId}
use Rattle.side_file.specs.declared.entry.Entry.{Entry}
use Rattle.side_file.specs.Entries.{entry_of}
use Rattle.side_file.specs.Ends.{TakeEnd}
use Rattle.page_workers.specs.WorkerValue.{IsHolding, WorkerValue}
use Rattle.page_workers.specs.declared.copied.Copied.{Copied}
use Rattle.build_events.specs.CoreState.{BuildState, LiveState, CoreState, scanning_of, live_with_heap}
use Rattle.build_events.specs.Ranges.{next_page, open_range}
use Rattle.building.specs.Holding.{all_spools, spools_state}
use Rattle.building.specs.Rings.{all_sent, AreLooked, AreSealed}
use Rattle.table_scan.specs.SideFiles.{HasLookedAtSide, SeesSide}
use Rattle.build_events.specs.BuildSteps.{cause_if, build_cause, counts_refusal, range_refusal, ring_most, after_feed}
use Rattle.build_events.specs.Steps.{refusal}
use Rattle.build_events.specs.declared.event.Event.{Event}
use Rattle.build_events.specs.Workers.{fed_to, unfed}
use Rattle.build_events.specs.SideEntries.{side_entries}
use Rattle.table_scan.specs.TableBuilds.{IsBuildOf}
use Rattle.building.specs.BuildingValue.{BuildingValue, IndexValue, WorkValue, work_state}
use Rattle.building.specs.WorkOn.{AreAtWork, WorkMatches, IsWorkOfBuild, WorkersFollow}

-- a table with the ends of its rings that put
pub record LiveValue : Type 0 where
  pub state : LiveState
  -- the ends that put copies of pages, one for each worker that a build may have
  pub pages : List (PutEnd Copied)
  -- the ends that put entries of side-files, one for each index that a build may have
  pub sides : List (PutEnd Entry)

-- the same with that heap
abbrev pub value_with_heap : LiveValue → HeapState → LiveValue
value_with_heap live heap = record live { state = live_with_heap live.state heap }

-- a heap, and the rings for the builds of its indexes
pub record PartsValue : Type 0 where
  pub heap : HeapState
  pub pages : List RingId
  pub sides : List RingId

-- a core whose name was taken off: what it is under a name, and the rings that the name has to be of
pub record UnnamedValue : Type 0 where
  pub core : CoreState
  pub pages : List RingId
  pub sides : List RingId

-- what callers see of a table and of what stands beside it
abbrev pub core_state : LiveValue → BuildingValue → CoreState
core_state live building = record {
  live = live.state;
  work = work_state building.workers building.work;
  spools = spools_state building.given (all_spools building.workers building.spools);
}

-- why an event is refused of a table and of what stands beside it
abbrev pub cause_of : LiveValue → BuildingValue → Event → Option Fault
cause_of live building event = refusal (core_state live building) event

-- work stands beside a table exactly where a build runs on it, and is that build's; its workers follow their rings, and their makers and
-- spools hold what they took
pub record StandsBeside (live : LiveValue) (building : BuildingValue) : Type 0 where
  pub work : WorkMatches live.state.heap.schema live.state.heap.log live.state.build building.work
  pub workers : WorkersFollow live.state.heap.schema live.pages live.sides building live.state.build building.work

-- both ends of the rings were looked at, and nothing else changed
pub record HasLookedAtRings (live : LiveValue) (building : BuildingValue) (new_live : LiveValue) (new_building : BuildingValue) : Type 0 where
  pub state : new_live.state ≡ live.state
  pub sides : new_live.sides ≡ live.sides
  pub rings : AreLooked live.pages building.workers new_live.pages new_building.workers
  pub idle : new_building.idle ≡ building.idle
  pub other_sides : new_building.sides ≡ building.sides
  pub spools : new_building.spools ≡ building.spools
  pub given : new_building.given ≡ building.given
  pub work : new_building.work ≡ building.work

-- both ends of a worker's ring are at hand, and so many copies wait in it
pub record SeesRing (worker count : ℕ) (live : LiveValue) (building : BuildingValue) : Type 0 where
  pub it : WorkerValue
  pub there : slice_get building.workers worker ≡ Some it
  pub end : PutEnd Copied
  pub ring : slice_get live.pages worker ≡ Some end
  pub in_order : it.intake.end.received ++ it.intake.end.known ≡ end.sent
  pub seen : count ≡ length it.intake.end.known
  pub free : 4 ≤ end.free + count

-- a build runs on that table, and this is its work
pub record IsRunning (live : LiveValue) (building : BuildingValue) (b : BuildState) (work : WorkValue) : Type 0 where
  pub build_is : live.state.build ≡ Some b
  pub work_is : building.work ≡ Some work
  pub follows : IsBuildOf live.state.heap.schema live.state.heap.log b
  pub on : IsWorkOfBuild live.state.heap.schema live.state.heap.log b work
  pub at_work : AreAtWork live.state.heap.schema b live.pages live.sides building work

-- how many places of a ring are known to be free
abbrev pub free_places : Option (PutEnd Copied) → ℕ
free_places None = 0
free_places (Some end) = end.free

-- why the end that puts copies for the worker takes none
abbrev pub full_refusal : List (PutEnd Copied) → ℕ → Option Fault
full_refusal pages worker = cause_if (free_places (slice_get pages worker) == 0) RingFull

-- why the range gives no further page for the worker
abbrev pub page_refusal : LiveState → ℕ → ℕ → Option Fault
page_refusal live range worker = build_cause live.build (λ b. first_cause (counts_refusal b range worker) (range_refusal (next_page b range)))

-- why no page of the range is copied into the worker's ring
abbrev pub put_refusal : LiveValue → ℕ → ℕ → Option Fault
put_refusal live range worker = first_cause (page_refusal live.state range worker) (full_refusal live.pages worker)

-- a worker of the build may make pairs
pub record MayWork (live : LiveValue) (building : BuildingValue) (worker : ℕ) : Type 0 where
  pub build : BuildState
  pub work : WorkValue
  pub runs : IsRunning live building build work
  pub fine : work.spoiled ≡ None
  pub there : worker < build.workers

-- the pairs of the index may be put in order
pub record MayLoad (live : LiveValue) (building : BuildingValue) (index : ℕ) : Type 0 where
  pub build : BuildState
  pub work : WorkValue
  pub runs : IsRunning live building build work
  pub fine : work.spoiled ≡ None
  pub there : index < length work.specs
  pub all : open_range build ≡ None
  pub sealed : AreSealed (all_sent live.pages) building.workers
  pub holding : work.handed ≡ false → All (λ worker. IsHolding worker.intake worker.maker worker.spools) building.workers

-- its workers have handed their spools over for that
pub record IsLoading (live : LiveValue) (building : BuildingValue) (index : ℕ) : Type 0 where
  pub build : BuildState
  pub work : WorkValue
  pub runs : IsRunning live building build work
  pub fine : work.spoiled ≡ None
  pub there : index < length work.specs
  pub loads : work.handed ≡ true

-- entries of its side-file may be applied to the index
pub record MayApply (live : LiveValue) (building : BuildingValue) (index : ℕ) : Type 0 where
  pub build : BuildState
  pub work : WorkValue
  pub runs : IsRunning live building build work
  pub fine : work.spoiled ≡ None
  pub it : IndexValue
  pub there : slice_get work.indexes index ≡ Some it
  pub loaded : is_some it.built ≡ true

-- both ends of the ring of that side-file were looked at, and nothing else changed
pub record SideIsLooked (index : ℕ) (live : LiveValue) (building : BuildingValue) (new_live : LiveValue) (new_building : BuildingValue) : Type 0 where
  pub old_put : PutEnd Entry
  pub put_there : slice_get live.sides index ≡ Some old_put
  pub old_end : TakeEnd Entry
  pub end_there : slice_get building.sides index ≡ Some old_end
  pub put : PutEnd Entry
  pub end : TakeEnd Entry
  pub looked : HasLookedAtSide old_put old_end put end
  pub puts : new_live ≡ record live { sides = set live.sides index put }
  pub ends : new_building ≡ record building { sides = set building.sides index end }

-- both ends of the ring of an index are at hand, and so many entries wait in it
pub record SeesSideAt (index waiting : ℕ) (live : LiveValue) (building : BuildingValue) : Type 0 where
  pub put : PutEnd Entry
  pub put_there : slice_get live.sides index ≡ Some put
  pub end : TakeEnd Entry
  pub end_there : slice_get building.sides index ≡ Some end
  pub sees : SeesSide waiting put end

-- the entries that a feed moves where they find room: at most so many, at most a ring's, and as many as are left
abbrev pub least_fed : BuildState → List LogRec → ℕ → ℕ → ℕ
least_fed b log index most = min most (min ring_most (unfed b log index (slice_get b.specs index)))

-- the next so many entries of the index that were not fed yet, under the build's number
abbrev pub next_entries : BuildState → List LogRec → ℕ → KeySpecValue → ℕ → List Entry
next_entries b log index spec count = map (entry_of b.number) (take count (drop (fed_to b index) (side_entries (scanning_of b spec) log)))

-- the next entries of the index's side-file went into its ring, as many as this end knew places for
pub record HasFed (index most : ℕ) (live : LiveValue) (count : ℕ) (new : LiveValue) : Type 0 where
  pub build : BuildState
  pub runs : live.state.build ≡ Some build
  pub within : count ≤ least_fed build live.state.heap.log index most
  pub put : PutEnd Entry
  pub there : slice_get live.sides index ≡ Some put
  pub exact : least_fed build live.state.heap.log index most ≤ put.free → count ≡ least_fed build live.state.heap.log index most
  -- a place that was never used is known to be free
  pub first : least_fed build live.state.heap.log index most + length put.sent ≤ ring_most → count ≡ least_fed build live.state.heap.log index most
  pub after : PutEnd Entry
  -- each takes one place, and fewer are moved only where no place is known to be free any more
  pub free : put.free ≤ after.free + count
  pub stops : count < least_fed build live.state.heap.log index most → after.free ≡ 0
  -- they are the next of its entries, put behind all that the ring was sent
  pub ring : after.ring ≡ put.ring
  pub capacity : after.capacity ≡ put.capacity
  pub sent : (spec : KeySpecValue) → slice_get build.specs index ≡ Some spec → after.sent ≡ put.sent ++ next_entries build live.state.heap.log index spec count
  pub others : new.sides ≡ set live.sides index after
  pub left : new.state ≡ record live.state { build = Some (after_feed build index count) }
  pub pages : new.pages ≡ live.pages

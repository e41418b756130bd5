-- What was put to the workers of a build, and what they have done with it; and how many entries of each index's side-file there are, were
-- fed and were applied.
use Rattle.std.specs.Prelude.{ℕ, zero, suc, ◌+◌, ◌-◌, ◌%◌, Bool, false, ◌&&◌, not, ◌==◌, List, [], ◌∷◌, filter, length, take, drop, flat_map, get_or, Option, Some, None}
use Rattle.std.specs.List.{range_with_len, position, list_all, slice_get}
use Rattle.keybytes.specs.Keys.{KeySpecValue}
use Rattle.keybytes.specs.declared.pair.Pair.{Pair}
use Rattle.heap_log.specs.declared.record.LogRec.{LogRec}
use Rattle.build_events.specs.CoreState.{BuildState, IndexState, WorkState, WorkerState, scanning_of}
use Rattle.build_events.specs.Ranges.{first_that}
use Rattle.build_events.specs.Scanning.{pairs_at_scan}
use Rattle.build_events.specs.SideEntries.{side_entries}
use Rattle.build_events.specs.declared.scan.Scan.{Scan}

-- the scans whose copies were put to a worker, in that order
abbrev pub put_to : BuildState → ℕ → List Scan
put_to b worker = filter (λ scan. scan.worker == worker) b.scans

-- a worker of the build
abbrev pub worker_at : WorkState → ℕ → WorkerState
worker_at work worker = get_or work.workers worker (record { taken = 0; sealed = 0 })

-- how many copies wait for a worker
abbrev pub waiting : BuildState → WorkState → ℕ → ℕ
waiting b work worker = length (put_to b worker) - (worker_at work worker).taken

-- the pairs of an index that a worker took since it last sealed
abbrev pub unsealed_pairs : BuildState → List LogRec → ℕ → WorkerState → KeySpecValue → List Pair
unsealed_pairs b log worker state spec =
    flat_map (pairs_at_scan (scanning_of b spec) log) (drop state.sealed (take state.taken (put_to b worker)))

-- whether these pairs fill whole runs
abbrev pub fill_runs : List Pair → Bool
fill_runs pairs = length pairs % 4096 == 0

-- whether a worker took all that was put to it, and has no run open
abbrev pub is_sealed : BuildState → List LogRec → ℕ → WorkerState → Bool
is_sealed b log worker state =
    (state.taken == length (put_to b worker)) && list_all (λ spec. fill_runs (unsealed_pairs b log worker state spec)) b.specs

-- the lowest worker that isn't sealed
abbrev pub unsealed_worker : BuildState → List LogRec → WorkState → Option ℕ
unsealed_worker b log work = first_that (λ worker. not (is_sealed b log worker (worker_at work worker))) (range_with_len 0 (length work.workers))

-- an index of the build
abbrev pub index_at : List IndexState → ℕ → IndexState
index_at indexes index = get_or indexes index (record { loaded = false; applied = 0 })

-- the lowest index whose pairs are not in order
abbrev pub unloaded_index : WorkState → Option ℕ
unloaded_index work = position (λ index. not index.loaded) work.indexes

-- how many entries the side-file of an index had so far
abbrev pub all_entries : BuildState → List LogRec → KeySpecValue → ℕ
all_entries b log spec = length (side_entries (scanning_of b spec) log)

-- how many of them were not applied to its pairs
abbrev pub unapplied : BuildState → List LogRec → KeySpecValue → IndexState → ℕ
unapplied b log spec index = all_entries b log spec - index.applied

-- the same over all indexes
abbrev pub all_unapplied : BuildState → List LogRec → List KeySpecValue → List IndexState → ℕ
all_unapplied b log [] indexes = 0
all_unapplied b log (spec ∷ specs) [] = 0
all_unapplied b log (spec ∷ specs) (index ∷ indexes) = unapplied b log spec index + all_unapplied b log specs indexes

-- how many of an index's entries went into the ring
abbrev pub fed_to : BuildState → ℕ → ℕ
fed_to b index = get_or b.fed index 0

-- and how many did not
abbrev pub unfed : BuildState → List LogRec → ℕ → Option KeySpecValue → ℕ
unfed b log index None = 0
unfed b log index (Some spec) = all_entries b log spec - fed_to b index

-- the same of the first so many of the build's indexes, and of all
abbrev pub unfed_before : ℕ → BuildState → List LogRec → ℕ
unfed_before zero b log = 0
unfed_before (suc n) b log = unfed_before n b log + unfed b log n (slice_get b.specs n)

abbrev pub all_unfed : BuildState → List LogRec → ℕ
all_unfed b log = unfed_before (length b.specs) b log

-- how many wait in the ring to be applied
abbrev pub in_ring : BuildState → WorkState → ℕ → ℕ
in_ring b work index = fed_to b index - (index_at work.indexes index).applied

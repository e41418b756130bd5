-- What the events of a build do, and why they are refused.
use Rattle.std.specs.Prelude.{◌≡◌, ◌⊎◌, ℕ, ◌+◌, ◌-◌, ◌<◌, ◌≤◌, Bool, true, false, ◌&&◌, ◌||◌, not, ◌==◌, nat_lt, nat_le, min, if◌then◌else◌, is_some, is_none, List, [], ◌∷◌, ◌++◌, ◌*◌, length, map, replicate, get_or, set, Option, Some, None}
use Rattle.std.specs.List.{All, list_any, list_all, slice_get}
use Rattle.std.specs.Option.{option_map}
use Rattle.keybytes.specs.Faults.{first_cause}
use Rattle.keybytes.specs.Keys.{KeySpecValue}
use Rattle.keybytes.specs.Schemas.{same_kinds}
use Rattle.keybytes.specs.declared.fault.Fault.{Fault}
use Rattle.keybytes.specs.declared.fault.Fault.TheVariants.{BuildRunning, NoBuild, BadCount, BadColumn, RangeDone, RingFull, NotScanned, NotSealed, NotLoaded, Behind, Busy, SpoolNotEmpty}
use Rattle.keybytes.specs.declared.pair.Pair.{Pair}
use Rattle.heap_log.specs.declared.outcome.Outcome.{Outcome}
use Rattle.heap_log.specs.declared.record.LogRec.{LogRec}
use Rattle.heap_table.specs.HeapState.{HeapState, after_switch, after_visit, after_fence, busy_txns}
use Rattle.heap_table.specs.Pages.{pages_written}
use Rattle.heap_table.specs.TablePairs.{pairs_at_rest}
use Rattle.build_events.specs.declared.plan.Plan.{Plan}
use Rattle.build_events.specs.CoreState.{BuildState, LiveState, IndexState, WorkState, SpoolsState, CoreState, scanning_of, live_with_heap, with_live, opening, idle, all_given}
use Rattle.ready_indexes.specs.Indexes.{IsIndex, index_now}
use Rattle.build_events.specs.Verdicts.{accepted, outcomes, verdict_on}
use Rattle.build_events.specs.Ranges.{next_page, open_range}
use Rattle.scan_range.specs.Dealings.{dealt_ends, dealing_refusal}
use Rattle.build_events.specs.Scanning.{scanned_pairs}
use Rattle.build_events.specs.SideEntries.{side_entries}
use Rattle.visibility.specs.SideEntries.{SideEntry, insert}
use Rattle.build_events.specs.Workers.{put_to, worker_at, waiting, unsealed_worker, index_at, unloaded_index, all_entries, all_unapplied, fed_to, unfed, in_ring}

-- the cause where the test holds
abbrev pub cause_if : Bool → Fault → Option Fault
cause_if test fault = if test then Some fault else None

-- Start.

-- the most workers of a build
abbrev pub workers_most : ℕ
workers_most = 16

-- the most indexes of a build
abbrev pub indexes_most : ℕ
indexes_most = 8

-- the most indexes of a table that are ready
abbrev pub ready_most : ℕ
ready_most = 32

-- 1 to 16 workers, 1 to 8 indexes, room for them among the ready ones, a number for the build, and a spool for each worker and index
abbrev pub counts_fit : LiveState → ℕ → Plan → Bool
counts_fit live spools plan =
    nat_le 1 plan.workers && nat_le plan.workers workers_most && nat_le 1 (length plan.specs.items) && nat_le (length plan.specs.items) indexes_most
    && nat_le (length live.ready + length plan.specs.items) ready_most
    && nat_lt live.builds 18446744073709551615 && (spools == plan.workers * length plan.specs.items)

-- why the spools that are left start no build
abbrev pub spools_refusal : List Bool → Option Fault
spools_refusal left = cause_if (not (list_all (λ is_empty. is_empty) left)) SpoolNotEmpty

-- why a plan starts no build beside these spools
abbrev pub start_refusal : LiveState → SpoolsState → Plan → Option Fault
start_refusal live spools plan =
    first_cause (cause_if (is_some live.build) BuildRunning)
    (first_cause (cause_if (not (counts_fit live (length spools.left) plan)) BadCount)
    (first_cause (cause_if (not (list_all (λ spec. same_kinds spec.kinds live.heap.schema) plan.specs.items)) BadColumn)
    (first_cause (dealing_refusal (pages_written live.heap.log) plan.dealing) (spools_refusal spools.left))))

-- the build that a plan starts
abbrev pub started : LiveState → Plan → BuildState
started live plan = record {
  number = live.builds + 1;
  specs = plan.specs.items;
  opened = length live.heap.log;
  pages = pages_written live.heap.log;
  ends = dealt_ends (pages_written live.heap.log) plan.dealing;
  workers = plan.workers;
  scans = [];
  fed = map (λ spec. 0) plan.specs.items;
}

-- its workers and indexes, before any work
abbrev pub fresh_work : Plan → WorkState
fresh_work plan = record {
  workers = replicate plan.workers (record { taken = 0; sealed = 0 });
  indexes = map (λ spec. record { loaded = false; applied = 0 }) plan.specs.items;
  spoiled = None;
}

-- a build starts and has the spools; answered with the number of pages that it reads
abbrev pub Starts : Plan → CoreState → ℕ → CoreState → Type 0
Starts plan s pages new =
    (pages ≡ pages_written s.live.heap.log)
    × (new ≡ record {
      live = record s.live { builds = s.live.builds + 1; build = Some (started s.live plan) };
      work = fresh_work plan;
      spools = all_given s.spools;
    })

-- Scan, Digest, Seal, Load, Feed, Apply, Switch, Fence and Abandon.

-- why the running build refuses an event; that none runs is a reason too
abbrev pub build_cause : Option BuildState → (BuildState → Option Fault) → Option Fault
build_cause None cause = Some NoBuild
build_cause (Some b) cause = cause b

-- what holds of the running build; nothing does where none runs
abbrev pub OnBuild : Option BuildState → (BuildState → Type 0) → Type 0
OnBuild None P = ⊥
OnBuild (Some b) P = P b

-- why the range gives no further page
abbrev pub range_refusal : Option ℕ → Option Fault
range_refusal page = if is_none page then Some RangeDone else None

-- a range or a worker that isn't there
abbrev pub counts_refusal : BuildState → ℕ → ℕ → Option Fault
counts_refusal b range worker = cause_if (nat_le (length b.ends) range || nat_le b.workers worker) BadCount

-- why no page of the range is copied for the worker
abbrev pub scan_refusal : BuildState → WorkState → ℕ → ℕ → Option Fault
scan_refusal b work range worker =
    first_cause (counts_refusal b range worker)
    (first_cause work.spoiled
    (first_cause (range_refusal (next_page b range)) (cause_if (nat_le 4 (waiting b work worker)) RingFull)))

-- one page more is copied, for that worker
abbrev pub after_scan : LiveState → BuildState → ℕ → ℕ → LiveState
after_scan live b worker page = record live {
  heap = after_visit live.heap;
  build = Some (record b { scans = b.scans ++ record { worker = worker; page = page; records = length live.heap.log } ∷ [] });
}

-- the lowest page of the range that is left is copied for the worker; answered with its number
abbrev pub Scans : ℕ → ℕ → LiveState → ℕ → LiveState → Type 0
Scans range worker live page new = OnBuild live.build (λ b. (next_page b range ≡ Some page) × (new ≡ after_scan live b worker page))

-- why a worker makes no pairs
abbrev pub worker_refusal : BuildState → WorkState → ℕ → Option Fault
worker_refusal b work worker = first_cause (cause_if (nat_le b.workers worker) BadCount) work.spoiled

-- how many copies a worker takes at once: one, if one waits
abbrev pub next_copies : BuildState → WorkState → ℕ → ℕ
next_copies b work worker = min 1 (waiting b work worker)

-- a copy waits for the worker
abbrev pub Waits : ℕ → CoreState → Type 0
Waits worker s = OnBuild s.live.build (λ b. 0 < waiting b s.work worker)

-- the worker took the next copy, if one waited
abbrev pub after_digest : BuildState → WorkState → ℕ → WorkState
after_digest b work worker =
    let old = worker_at work worker in
    record work { workers = set work.workers worker (record old { taken = old.taken + next_copies b work worker }) }

-- answered with the number of copies that it took
abbrev pub Digests : ℕ → CoreState → ℕ → CoreState → Type 0
Digests worker s images new =
    OnBuild s.live.build (λ b. (images ≡ next_copies b s.work worker) × (new ≡ record s { work = after_digest b s.work worker }))

-- the worker took all that was put to it, and sealed
abbrev pub after_seal : BuildState → WorkState → ℕ → WorkState
after_seal b work worker =
    let put = length (put_to b worker) in record work { workers = set work.workers worker (record { taken = put; sealed = put }) }

-- answered with the number of copies that it took
abbrev pub Seals : ℕ → CoreState → ℕ → CoreState → Type 0
Seals worker s images new =
    OnBuild s.live.build (λ b. (images ≡ waiting b s.work worker) × (new ≡ record s { work = after_seal b s.work worker }))

-- an index that isn't there
abbrev pub index_refusal : BuildState → ℕ → Option Fault
index_refusal b index = cause_if (nat_le (length b.specs) index) BadCount

-- why no pairs are put in order
abbrev pub load_refusal : BuildState → CoreState → ℕ → Option Fault
load_refusal b s index =
    first_cause (index_refusal b index)
    (first_cause s.work.spoiled
    (first_cause (option_map NotScanned (open_range b)) (option_map NotSealed (unsealed_worker b s.live.heap.log s.work))))

-- how many pairs of that specification the copied pages had
abbrev pub pairs_copied : BuildState → List LogRec → Option KeySpecValue → ℕ
pairs_copied b log None = 0
pairs_copied b log (Some spec) = length (scanned_pairs (scanning_of b spec) log)

-- the index's pairs are in order
abbrev pub after_load : WorkState → ℕ → WorkState
after_load work index = record work { indexes = set work.indexes index (record (index_at work.indexes index) { loaded = true }) }

-- answered with the number of pairs; 0 where they were in order already
abbrev pub Loads : ℕ → CoreState → ℕ → CoreState → Type 0
Loads index s pairs new =
    OnBuild s.live.build (λ b.
    (pairs ≡ (if (index_at s.work.indexes index).loaded then 0 else pairs_copied b s.live.heap.log (slice_get b.specs index)))
    × (new ≡ record s { work = after_load s.work index }))

-- the most entries that wait in the ring of a side-file
abbrev pub ring_most : ℕ
ring_most = 256

-- how many entries go into the ring at once: at most so many, as many as are left, and as many as it has room for
abbrev pub next_fed : BuildState → List LogRec → WorkState → ℕ → ℕ → ℕ
next_fed b log work index most = min most (min (unfed b log index (slice_get b.specs index)) (ring_most - in_ring b work index))

-- the next entries of the index's side-file went into its ring
abbrev pub after_feed : BuildState → ℕ → ℕ → BuildState
after_feed b index count = record b { fed = set b.fed index (fed_to b index + count) }

-- answered with their number
abbrev pub Feeds : ℕ → ℕ → CoreState → ℕ → CoreState → Type 0
Feeds index most s count new =
    OnBuild s.live.build (λ b.
    (count ≡ next_fed b s.live.heap.log s.work index most)
    × (new ≡ with_live s (record s.live { build = Some (after_feed b index count) })))

-- why no entries are applied to the index
abbrev pub apply_refusal : BuildState → WorkState → ℕ → Option Fault
apply_refusal b work index =
    first_cause (index_refusal b index)
    (first_cause work.spoiled (cause_if (not (index_at work.indexes index).loaded) (NotLoaded index)))

-- how many entries are applied at once: at most so many of those that wait in the ring
abbrev pub next_applied : BuildState → WorkState → ℕ → ℕ → ℕ
next_applied b work index most = min most (in_ring b work index)

-- so many entries more were applied to the index
abbrev pub after_apply : WorkState → ℕ → ℕ → WorkState
after_apply work index count =
    let old = index_at work.indexes index in
    record work { indexes = set work.indexes index (record old { applied = old.applied + count }) }

-- answered with their number
abbrev pub Applies : ℕ → ℕ → CoreState → ℕ → CoreState → Type 0
Applies index most s count new =
    OnBuild s.live.build (λ b. (count ≡ next_applied b s.work index most) × (new ≡ record s { work = after_apply s.work index count }))

-- an entry puts a pair in
abbrev pub PutsIn : SideEntry → Type 0
PutsIn entry = (pair : Pair) × (entry ≡ insert pair)

-- to apply the entry of an index behind so many may take memory: it puts a pair in, or the index is unique
pub record MayTakeMemory (b : BuildState) (log : List LogRec) (index applied : ℕ) : Type 0 where
  pub spec : KeySpecValue
  pub of_build : slice_get b.specs index ≡ Some spec
  pub entry : SideEntry
  pub next : slice_get (side_entries (scanning_of b spec) log) applied ≡ Some entry
  pub needs : PutsIn entry ⊎ (spec.unique ≡ true)

-- where memory was wanted for an entry, those before it were applied
abbrev pub AppliesSome : ℕ → ℕ → CoreState → CoreState → Type 0
AppliesSome index most s new =
    OnBuild s.live.build (λ b.
    (count : ℕ) × (count < next_applied b s.work index most) × (new ≡ record s { work = after_apply s.work index count })
    × MayTakeMemory b s.live.heap.log index ((index_at s.work.indexes index).applied + count))

-- the most entries that a switch applies, over all indexes
abbrev pub switch_most : ℕ
switch_most = 1024

-- so many entries are more than a switch applies
abbrev pub behind_refusal : ℕ → Option Fault
behind_refusal left = cause_if (nat_lt switch_most left) (Behind left)

-- a build with a unique index waits until none of so many open transactions has a write that stands
abbrev pub busy_refusal : BuildState → ℕ → Option Fault
busy_refusal b busy = cause_if (list_any (λ spec. spec.unique) b.specs && nat_lt 0 busy) (Busy busy)

-- why a switch does not decide
abbrev pub switch_refusal : BuildState → HeapState → WorkState → Option Fault
switch_refusal b heap work =
    first_cause work.spoiled
    (first_cause (option_map NotScanned (open_range b))
    (first_cause (option_map NotLoaded (unloaded_index work))
    (first_cause (behind_refusal (all_unapplied b heap.log b.specs work.indexes)) (busy_refusal b (length (busy_txns heap))))))

-- what becomes of each index of the build: the accepted ones are ready, numbered behind those that are
abbrev pub verdicts_on : LiveState → BuildState → List Outcome
verdicts_on live b = outcomes (length live.ready) (map (verdict_on live.heap.log) b.specs)

-- the accepted indexes of the build are ready, each with the pairs of the rows that stand and that it takes; no build runs, and transactions may begin
abbrev pub after_switch_in : LiveState → BuildState → LiveState
after_switch_in live b = record live {
  heap = after_fence false (after_switch live.heap (verdicts_on live b));
  ready = live.ready ++ map (index_now live.heap.log) (accepted live.heap.log b.specs);
  build = None;
}

-- the pairs at rest of each of these have keys of rows, and stand in the order of the keys' columns
abbrev pub AreKeyed : List LogRec → List KeySpecValue → Type 0
AreKeyed log specs = All (λ spec. IsIndex spec (pairs_at_rest spec log)) specs

-- answered with the number of the log record, and what became of each index
abbrev pub Switches : CoreState → ℕ × List Outcome → CoreState → Type 0
Switches s told new =
    OnBuild s.live.build (λ b.
    (told.0 ≡ length s.live.heap.log + 1) × (told.1 ≡ verdicts_on s.live b)
    × (new ≡ record s { live = after_switch_in s.live b; work = idle }) × AreKeyed s.live.heap.log b.specs)

-- an index is further: more of its so many entries may have gone into the ring, and more may have been applied
pub record IsFurther (entries fed : ℕ) (index : IndexState) (new_fed : ℕ) (new : IndexState) : Type 0 where
  pub loaded : new.loaded ≡ index.loaded
  pub fed_more : fed ≤ new_fed
  pub applied_more : index.applied ≤ new.applied
  pub applied_were_fed : new.applied ≤ new_fed
  pub fed_were_there : new_fed ≤ entries

-- each index of the build is
pub record AreFurther (b : BuildState) (log : List LogRec) (indexes : List IndexState) (fed : List ℕ) (new : List IndexState) : Type 0 where
  pub fed_many : length fed ≡ length b.fed
  pub indexes_many : length new ≡ length indexes
  pub each : (index : ℕ) (spec : KeySpecValue) → slice_get b.specs index ≡ Some spec
      → IsFurther (all_entries b log spec) (fed_to b index) (index_at indexes index) (get_or fed index 0) (index_at new index)

-- where memory was wanted at a switch, some of the entries were fed and applied, and nothing else changed
abbrev pub CatchesUp : CoreState → CoreState → Type 0
CatchesUp s new =
    OnBuild s.live.build (λ b.
    (fed : List ℕ) × (indexes : List IndexState) × AreFurther b s.live.heap.log s.work.indexes fed indexes
    × (new ≡ record s { live = record s.live { build = Some (record b { fed = fed }) }; work = record s.work { indexes = indexes } }))

-- no transaction may begin until the build has decided or is given up
abbrev pub fenced : LiveState → LiveState
fenced live = live_with_heap live (after_fence true live.heap)

-- the build is given up, and with it all its work
abbrev pub Abandons : CoreState → CoreState → Type 0
Abandons s new = new ≡ opening s.live s.spools

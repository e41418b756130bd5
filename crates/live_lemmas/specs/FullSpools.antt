-- Which events spool pairs, and the full spool behind one that wants a page.
use Rattle.std.specs.Prelude.{◌≡◌, ℕ, ◌+◌, ◌*◌, ◌%◌, ◌≤◌, ◌++◌, List, drop, flat_map, length, take, Option, None, Some}
use Rattle.std.specs.List.{slice_get}
use Rattle.keybytes.specs.Keys.{KeySpecValue}
use Rattle.keybytes.specs.declared.fault.Fault.{Fault}
use Rattle.keybytes.specs.declared.fault.Fault.TheVariants.{NoPage}
use Rattle.keybytes.specs.declared.pair.Pair.{Pair}
use Rattle.heap_log.specs.declared.record.LogRec.{LogRec}
use Rattle.spool_ledger.specs.Accounts.{Stake}
use Rattle.run_spool.specs.Spools.{NoneEmpty, all_pairs}
use Rattle.run_maker.specs.FullSpools.{IsFullOf}
use Rattle.run_maker.specs.Spooling.{HasFullRunsMore}
use Rattle.page_workers.specs.declared.turn.Turn.{Turn}
use Rattle.page_workers.specs.declared.turn.Turn.TheVariants.{Digest as TurnDigest, Seal as TurnSeal}
use Rattle.page_workers.specs.Turns.{least_pairs}
use Rattle.build_events.specs.CoreState.{BuildState, CoreState, WorkerState, scanning_of}
use Rattle.build_events.specs.Scanning.{pairs_at_scan}
use Rattle.build_events.specs.Workers.{put_to, unsealed_pairs, worker_at}
use Rattle.build_events.specs.declared.scan.Scan.{Scan as PageScan}
use Rattle.build_events.specs.BuildSteps.{OnBuild}
use Rattle.build_events.specs.declared.event.Event.{Event}
use Rattle.build_events.specs.declared.event.Event.TheVariants.{Begin, Insert, Update, Delete, Undo, Commit, Start, Scan, Digest, Seal, Load, Feed, Apply}
use Rattle.build_events.specs.declared.event.Event.TheVariants.{Fence, Switch, Abandon}

-- what holds of the turn and the worker whose pairs an event spools; only a digest and a seal spool pairs
abbrev pub IfSpooling : Event → (Turn → ℕ → Type 0) → Type 0
IfSpooling Begin P = Unit {0}
IfSpooling (Insert txn row) P = Unit {0}
IfSpooling (Update txn rid row) P = Unit {0}
IfSpooling (Delete txn rid) P = Unit {0}
IfSpooling (Undo txn) P = Unit {0}
IfSpooling (Commit txn) P = Unit {0}
IfSpooling (Start plan) P = Unit {0}
IfSpooling (Scan range worker) P = Unit {0}
IfSpooling (Digest worker) P = P TurnDigest worker
IfSpooling (Seal worker) P = P TurnSeal worker
IfSpooling (Load index) P = Unit {0}
IfSpooling (Feed index most) P = Unit {0}
IfSpooling (Apply index most) P = Unit {0}
IfSpooling Fence P = Unit {0}
IfSpooling Switch P = Unit {0}
IfSpooling Abandon P = Unit {0}

-- the event by which a worker has that turn
abbrev pub turn_event : Turn → ℕ → Event
turn_event TurnDigest worker = Digest worker
turn_event TurnSeal worker = Seal worker

-- the scans whose copies a worker takes at that turn: of those that wait for it a digest takes the next one, a seal all
abbrev pub turn_scans : Turn → BuildState → ℕ → WorkerState → List PageScan
turn_scans TurnDigest b worker state = take 1 (drop state.taken (put_to b worker))
turn_scans TurnSeal b worker state = drop state.taken (put_to b worker)

-- the pairs of the pages whose copies a worker has taken once it has that turn, as each page was when it was copied
abbrev pub pairs_by_turn : Turn → BuildState → KeySpecValue → List LogRec → ℕ → WorkerState → List Pair
pairs_by_turn turn b spec log worker state =
    flat_map (pairs_at_scan (scanning_of b spec) log) (take state.taken (put_to b worker) ++ turn_scans turn b worker state)

-- a worker has another run to close for an index as that turn begins: so many pairs make a run, and there are as many, those that it took since its
-- last seal and that fill no run, with those of the copies that it takes
abbrev pub HasRunToClose : Turn → BuildState → List LogRec → ℕ → WorkerState → KeySpecValue → Type 0
HasRunToClose turn b log worker state spec =
    let taken = flat_map (pairs_at_scan (scanning_of b spec) log) (turn_scans turn b worker state) in
    least_pairs turn ≤ length (unsealed_pairs b log worker state spec) % 4096 + length taken

-- the pairs of an index that a worker had taken when it last sealed
abbrev pub sealed_pairs : BuildState → List LogRec → ℕ → WorkerState → KeySpecValue → List Pair
sealed_pairs b log worker state spec = flat_map (pairs_at_scan (scanning_of b spec) log) (take state.sealed (put_to b worker))

-- each of these runs of a worker that was closed since its last seal has 4,096 pairs, and so has each one of a worker that hasn't sealed; those
-- before have pairs, and together as many as it had taken by then
pub record AreFullSince (sealed : List Pair) (runs : List (List Pair)) : Type 0 where
  pub earlier : List (List Pair)
  pub none_empty : NoneEmpty earlier
  pub since_seal : HasFullRunsMore earlier runs
  pub as_many : length (all_pairs earlier) ≡ length sealed

module _
    {S : Type 0} (is_full : S → Pair → Type 0) (runs : S → List (List Pair)) (open_run : S → List Pair) (stake : S → Option Stake) where
  -- a spool, with the kind, the pool and the quota of that worker's spool for one of the build's indexes, was full of the pairs of the copies that
  -- the worker takes at that turn and took before: it held some of them and nothing else, and had no room left for one more of them; in
  -- each of its runs stand as many pairs as that worker closes in one, and in none of them as many as it closes a run for
  pub record WasFull (turn : Turn) (b : BuildState) (log : List LogRec) (worker : ℕ) (state : WorkerState) (stakes : List (Option Stake)) : Type 0 where
    pub index : ℕ
    pub spec : KeySpecValue
    pub of_build : slice_get b.specs index ≡ Some spec
    pub spool : S
    pub there : slice_get stakes (worker * length b.specs + index) ≡ Some (stake spool)
    pub full : IsFullOf is_full runs open_run (pairs_by_turn turn b spec log worker state) spool
    pub left : length (all_pairs (runs spool)) + least_pairs turn ≤ length (pairs_by_turn turn b spec log worker state)
    pub closed : AreFullSince (sealed_pairs b log worker state spec) (runs spool)
    pub wants : HasRunToClose turn b log worker state spec

  -- a spool of that worker of the running build was full at its turn
  abbrev pub WorkerWasFull : Turn → CoreState → ℕ → Type 0
  WorkerWasFull turn s worker = OnBuild s.live.build (λ b. WasFull turn b s.live.heap.log worker (worker_at s.work worker) s.spools.stakes)

  -- a fault that doesn't repeat what the build was spoiled for tells of a page only if a spool of that worker was full
  abbrev pub NoPageOnlyIfFull : Turn → CoreState → ℕ → Fault → Type 0
  NoPageOnlyIfFull turn s worker fault = fault ≡ NoPage → s.work.spoiled ≡ None → WorkerWasFull turn s worker

  -- an event wanted a page: it is a digest or a seal, and a spool of its worker was full
  pub record WantedPage (s : CoreState) (event : Event) : Type 0 where
    pub turn : Turn
    pub worker : ℕ
    pub spools : event ≡ turn_event turn worker
    pub full : WorkerWasFull turn s worker

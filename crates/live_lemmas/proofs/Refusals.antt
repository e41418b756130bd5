-- Why a step of a build is refused, in the order of the causes.
use Rattle.std.proofs.Common.{◌≡◌, ℕ, ◌-◌, List, ◌++◌, length, map, Option, Some, None, refl}
use Rattle.std.proofs.Common.{sym, ap, ◌∙◌, subst}
use Rattle.std.specs.Prelude.{IsSome, true}
use Rattle.std.specs.List.{slice_get}
use Rattle.std.proofs.lemmas.Bool.{false≢true}
use Rattle.keybytes.specs.declared.kind.Kind.{Kind}
use Rattle.heap_log.specs.declared.record.LogRec.{LogRec}
use Rattle.side_file.specs.Ends.{PutEnd}
use Rattle.side_file.specs.declared.entry.Entry.{Entry}
use Rattle.build_events.specs.BuildSteps.{build_cause}
use Rattle.page_workers.specs.WorkerValue.{WorkerValue}
use Rattle.std.proofs.lemmas.Option.{get_or_from_slice_get}
use Rattle.page_workers.specs.declared.copied.Copied.{Copied}
use Rattle.live_lemmas.specs.Builds.{LiveValue}
use Rattle.building.specs.BuildingValue.{BuildingValue, WorkValue, work_state, worker_state, index_state}
use Rattle.building.specs.WorkOn.{WorkMatches, WorkersFollow}
use Rattle.table_scan.specs.TableBuilds.{BuildFollows}
use Rattle.live_lemmas.specs.Builds.{StandsBeside, IsRunning}
use Rattle.build_events.specs.CoreState.{BuildState, WorkState}
use Rattle.building.specs.Rings.{all_sent}
use Rattle.live_lemmas.specs.Rings.{ArePut}
use Rattle.build_events.specs.Workers.{put_to, waiting, worker_at}
use Rattle.page_workers.proofs.Places.{map_at}
use Rattle.live_lemmas.proofs.Waits.{waits}

pub running :
    (live : LiveValue) (building : BuildingValue) (b : BuildState) (w : WorkValue) → live.state.build ≡ Some b → building.work ≡ Some w
    → BuildFollows live.state.heap.schema live.state.heap.log live.state.build → StandsBeside live building → IsRunning live building b w
running live building b w build_is work_is follows works = record {
  build_is = build_is;
  work_is = work_is;
  follows = subst (BuildFollows live.state.heap.schema live.state.heap.log) build_is follows;
  on = subst (λ (o : Option BuildState). WorkMatches live.state.heap.schema live.state.heap.log o (Some w)) build_is
      (subst (WorkMatches live.state.heap.schema live.state.heap.log live.state.build) work_is works.work);
  at_work = subst (λ (o : Option BuildState). WorkersFollow live.state.heap.schema live.pages live.sides building o (Some w)) build_is
      (subst (WorkersFollow live.state.heap.schema live.pages live.sides building live.state.build) work_is works.workers);
}

-- the same, told of a table from within
pub running_inside :
    (inside live : LiveValue) (building : BuildingValue) (b : BuildState) (w : WorkValue) → inside ≡ live → inside.state.build ≡ Some b → building.work ≡ Some w
    → BuildFollows inside.state.heap.schema inside.state.heap.log inside.state.build → StandsBeside live building → IsRunning live building b w
running_inside inside live building b w view_is build_is work_is follows works =
    running live building b w (sym (ap (λ (l : LiveValue). l.state.build) view_is) ∙ build_is) work_is
    (subst (λ (l : LiveValue). BuildFollows l.state.heap.schema l.state.heap.log l.state.build) view_is follows) works

-- a running build's work, as a table and what stands beside it show it
pub works_with :
    (live : LiveValue) (building : BuildingValue) (b : BuildState) (w : WorkValue) → IsRunning live building b w → StandsBeside live building
works_with live building b w run = record {
  work = subst (λ (o : Option BuildState). WorkMatches live.state.heap.schema live.state.heap.log o building.work) (sym run.build_is)
      (subst (WorkMatches live.state.heap.schema live.state.heap.log (Some b)) (sym run.work_is) run.on);
  workers = subst (λ (o : Option BuildState). WorkersFollow live.state.heap.schema live.pages live.sides building o building.work) (sym run.build_is)
      (subst (WorkersFollow live.state.heap.schema live.pages live.sides building (Some b)) (sym run.work_is) run.at_work);
}

-- what callers see of work that goes on
abbrev pub state_of : BuildingValue → WorkValue → WorkState
state_of building w = record { workers = map (λ (v : WorkerValue). worker_state v.intake) building.workers; indexes = map index_state w.indexes; spoiled = None }

pub state_is : (building : BuildingValue) (w : WorkValue) → building.work ≡ Some w → w.spoiled ≡ None → work_state building.workers building.work ≡ state_of building w
state_is building w is fine = rw (is, fine) refl

module _
    (live : LiveValue) (building : BuildingValue) (b : BuildState) (w : WorkValue) (run : IsRunning live building b w) (fine : w.spoiled ≡ None)
    (put : ArePut live.state.heap.schema live.state.heap.log b (all_sent live.pages)) where
  abbrev work : WorkState
  work = work_state building.workers building.work

  pub worker_there : (k : ℕ) (worker : WorkerValue) → slice_get building.workers k ≡ Some worker → worker_at work k ≡ worker_state worker.intake
  worker_there k worker at =
      ap (λ (s : WorkState). worker_at s k) (state_is building w run.work_is fine)
      ∙ get_or_from_slice_get (map (λ (v : WorkerValue). worker_state v.intake) building.workers) k (worker_state worker.intake) _
      (map_at (λ (v : WorkerValue). worker_state v.intake) building.workers k worker at)

  module _ (k : ℕ) (sent : List Copied) (worker : WorkerValue) (there : slice_get (all_sent live.pages) k ≡ Some sent)
      (at : slice_get building.workers k ≡ Some worker) where
    -- what waits is what the worker sees in its ring
    pub waiting_is : (known : List Copied) → worker.intake.end.received ++ known ≡ sent → waiting b work k ≡ length known
    waiting_is known in_order =
        ap (λ s. length (put_to b k) - s.taken) (worker_there k worker at)
        ∙ waits live.state.heap.schema live.state.heap.log b k sent worker.intake (put k sent there)
        (run.at_work.taking fine k sent worker there at).taking known in_order

-- to give a running build up nothing is in the way
pub builds_on : (o : Option BuildState) → IsSome o → build_cause o (λ b. None) ≡ None
builds_on None some = absurd (false≢true some)
builds_on (Some b) some = refl

-- a build that runs was given the spools
pub given_to :
    (kinds : List Kind) (log : List LogRec) (pages : List (PutEnd Copied)) (sides : List (PutEnd Entry)) (building : BuildingValue) (o : Option BuildState)
    (work : Option WorkValue) → WorkMatches kinds log o work → WorkersFollow kinds pages sides building o work → IsSome o → building.given ≡ true
given_to kinds log pages sides building None w is follow some = absurd (false≢true some)
given_to kinds log pages sides building (Some b) None is follow some = absurd is
given_to kinds log pages sides building (Some b) (Some w) is follow some = follow.given

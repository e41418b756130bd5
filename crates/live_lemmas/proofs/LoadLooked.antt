-- Why the pairs of an index are not put in order, told by a look at the page rings.
use Rattle.std.proofs.Common.{◌≡◌, ℕ, ◌<◌, List, length, All, Option, None, Some, ap, subst, arith}
use Rattle.std.specs.List.{slice_get}
use Rattle.keybytes.specs.declared.fault.Fault.{Fault}
use Rattle.keybytes.specs.declared.fault.Fault.TheVariants.{NotSealed}
use Rattle.side_file.specs.Ends.{RingId}
use Rattle.page_workers.specs.WorkerValue.{WorkerValue}
use Rattle.build_events.specs.BuildSteps.{build_cause, load_refusal}
use Rattle.build_events.specs.CoreState.{BuildState, CoreState}
use Rattle.build_events.specs.Ranges.{open_range}
use Rattle.build_events.specs.declared.event.Event.TheVariants.{Load}
use Rattle.building.specs.BuildingValue.{BuildingValue, WorkValue}
use Rattle.building.specs.Keeping.{KeepsLaws}
use Rattle.building.specs.Rings.{all_sent}
use Rattle.live_lemmas.specs.Builds.{HasLookedAtRings, IsRunning, LiveValue, MayLoad, cause_of}
use Rattle.live_lemmas.specs.Rings.{ArePut, PagesFollow}
use Rattle.live_lemmas.specs.Switching.{HaveAll, IsLowestUnsealed}
use Rattle.live_lemmas.proofs.LoadCauses.{OpenRuns, all_holding, load_free, load_unsealed, open_runs}
use Rattle.live_lemmas.proofs.Looked.{runs_looked, state_looked}
use Rattle.live_lemmas.proofs.Takes.{put_of}

-- a build that goes on and has such an index, all of whose pages are copied, where a look came before
module _
    (old live : LiveValue) (before building : BuildingValue) (b : BuildState) (w : WorkValue) (index : ℕ) (was : IsRunning old before b w)
    (fine : w.spoiled ≡ None) (there : index < length b.specs) (all : open_range b ≡ None) (looked : HasLookedAtRings old before live building)
    (follow : PagesFollow live.state.heap.schema live.state.heap.log live.state.builds live.state.build (all_sent live.pages)) (sixteen : length live.pages ≡ 16)
    (rings : List RingId) (laws : All (KeepsLaws rings) building.workers) where
  run : IsRunning live building b w
  run = runs_looked old live before building b w looked was

  put : ArePut live.state.heap.schema live.state.heap.log b (all_sent live.pages)
  put = put_of live b run.build_is follow

  opened : (k : ℕ) (worker : WorkerValue) → slice_get building.workers k ≡ Some worker → OpenRuns w.specs worker
  opened = open_runs live building b w run fine put sixteen rings laws

  -- its cause is what it was
  was_cause : (cause : Option Fault) → cause_of live building (Load index) ≡ cause → cause_of old before (Load index) ≡ cause
  was_cause cause =
      subst (λ (s : CoreState). build_cause s.live.build (λ x. load_refusal x s index) ≡ cause) (state_looked old live before building looked)

  pub none_left : HaveAll live building → cause_of old before (Load index) ≡ None
  none_left sealed = was_cause None (load_free live building b w run fine put sixteen opened index there all sealed)

  pub one_left : (worker : ℕ) → IsLowestUnsealed live building worker → cause_of old before (Load index) ≡ Some (NotSealed worker)
  one_left worker lowest =
      was_cause (Some (NotSealed worker))
      (load_unsealed live building b w run fine put sixteen opened index worker there all lowest.there lowest.lower lowest.unsealed)

  pub may_load : HaveAll live building → MayLoad live building index
  may_load sealed = record {
    build = b;
    work = w;
    runs = run;
    fine = fine;
    there = let same = ap length was.on.specs in omega (arith, there, same);
    all = all;
    sealed = sealed;
    holding = all_holding live building b w run fine put sixteen rings laws;
  }

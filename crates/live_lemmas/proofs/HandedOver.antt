-- The spools of a build's workers, once these handed them over.
use Rattle.std.proofs.Common.{◌≡◌, ℕ, true, false, List, [], ◌++◌, All, length, map, get_or, Some, None, refl, sym, ap, ◌∙◌, subst, arith, append-nil}
use Rattle.std.specs.List.{slice_get}
use Rattle.std.proofs.lemmas.Bool.{false≢true}
use Rattle.std.proofs.lemmas.List.{length-map}
use Rattle.std.proofs.lemmas.Option.{same_Some, get_or_from_slice_get}
use Rattle.keybytes.specs.Keys.{KeySpecValue}
use Rattle.run_maker.specs.Making.{spec_at}
use Rattle.page_workers.specs.Holding.{HoldsOpen}
use Rattle.page_workers.specs.SpoolValue.{SpoolValue}
use Rattle.page_workers.specs.Taking.{unsealed_images}
use Rattle.page_workers.specs.WorkerValue.{IsHolding, WorkerValue}
use Rattle.page_workers.specs.declared.copied.Copied.{Copied}
use Rattle.build_events.specs.CoreState.{BuildState, WorkState}
use Rattle.build_events.specs.Ranges.{open_range}
use Rattle.live_lemmas.specs.Builds.{LiveValue, IsRunning, core_state}
use Rattle.building.specs.BuildingValue.{BuildingValue, WorkValue, IsUnloaded, index_state, work_state, worker_state}
use Rattle.building.specs.Holding.{all_spools, workers_spools, spools_state}
use Rattle.building.specs.Rings.{all_sent, AreSealed, IsSealed, IsWorkerOf}
use Rattle.building.specs.Working.{CanHandOver, HasHandedOver, handed_over}
use Rattle.building.specs.Keeping.{HaveEachOnce, IsClosed}
use Rattle.page_workers.proofs.Places.{all_at, all_from, at_map, below, map_at, mapped, there_is}
use Rattle.live_lemmas.proofs.Refusals.{state_is}
use Rattle.building.proofs.HandedKept.{HasItsSpools, lent_columns}
use Rattle.building.proofs.Works.{loading_work_on}
use Rattle.building.proofs.BroughtHome.{none_left}
use Rattle.building.proofs.AtWork.{opened_in}

-- of an index its specification
pub spec_is : (specs : List KeySpecValue) (index : ℕ) (spec : KeySpecValue) → slice_get specs index ≡ Some spec → spec_at specs index ≡ spec
spec_is specs index spec is = get_or_from_slice_get specs index spec (record { kinds = []; columns = []; unique = false; condition = None }) is

module _
    (live : LiveValue) (building : BuildingValue) (b : BuildState) (w : WorkValue) (run : IsRunning live building b w) (fine : w.spoiled ≡ None)
    (scans : w.handed ≡ false) (rings : length live.pages ≡ 16) (sealed : AreSealed (all_sent live.pages) building.workers) (all : open_range b ≡ None)
    (holding : All (λ worker. IsHolding worker.intake worker.maker worker.spools) building.workers) where
  -- what is left
  abbrev pub left : BuildingValue
  left = record building {
    workers = map handed_over building.workers;
    spools = all_spools building.workers building.spools;
    work = Some (record w { handed = true });
  }

  abbrev n : ℕ
  n = length w.specs

  abbrev lent : List SpoolValue
  lent = workers_spools building.workers

  pub all_lent : all_spools building.workers building.spools ≡ lent
  all_lent = ap (λ (home : List SpoolValue). home ++ lent) (run.at_work.lent fine scans)

  -- what was sent to a worker
  sent_to : (k : ℕ) (worker : WorkerValue) → slice_get building.workers k ≡ Some worker → (sent : List Copied) × (slice_get (all_sent live.pages) k ≡ Some sent)
  sent_to k worker at =
      let less = below building.workers k worker at in
      let end = there_is live.pages k (omega (arith, less, run.at_work.many, run.follows.few_workers, rings)) in
      (end.0.sent, map_at (λ (e : _). e.sent) live.pages k end.0 end.1)

  of_build : (k : ℕ) (worker : WorkerValue) (at : slice_get building.workers k ≡ Some worker) → IsWorkerOf b.number live.state.heap.schema w.specs w.handed (sent_to k worker at).0 worker
  of_build k worker at = let sent = sent_to k worker at in run.at_work.taking fine k sent.0 worker sent.1 at

  holds : (k : ℕ) (worker : WorkerValue) → slice_get building.workers k ≡ Some worker → IsHolding worker.intake worker.maker worker.spools
  holds k worker at = all_at (λ (v : WorkerValue). IsHolding v.intake v.maker v.spools) building.workers k worker holding at

  is_sealed : (k : ℕ) (worker : WorkerValue) (at : slice_get building.workers k ≡ Some worker) → IsSealed (sent_to k worker at).0 worker
  is_sealed k worker at = let sent = sent_to k worker at in sealed k sent.0 worker sent.1 at

  -- they have their spools
  all_own : All (HasItsSpools w.specs) building.workers
  all_own = all_from (HasItsSpools w.specs) building.workers (λ k worker at.
      let of = of_build k worker at in
      record { fine = of.fine; specs_are = of.specs_are; spools_are = of.handed ∙ scans })

  -- all their runs are closed
  all_closed : All IsClosed building.workers
  all_closed = all_from IsClosed building.workers (λ k worker at. (is_sealed k worker at).closed)

  -- so they may, where no pair of an index is there twice
  pub can_hand_over : HaveEachOnce w (workers_spools building.workers) → CanHandOver building
  can_hand_over once = record { work = w; runs = run.work_is; fine = fine; scans = scans; closed = all_closed; once = once }

  -- of what it took since its last seal
  still_open :
      (k : ℕ) (worker : WorkerValue) → slice_get building.workers k ≡ Some worker → (index : ℕ) (spec : KeySpecValue) → slice_get w.specs index ≡ Some spec
      → HoldsOpen spec (unsealed_images spec.kinds worker.intake) (get_or worker.maker.begun index [])
  still_open k worker at = opened_in (of_build k worker at) run.on.columns (holds k worker at)

  -- the build goes on
  pub handed_run : IsRunning live left b (record w { handed = true })
  handed_run = record {
    build_is = run.build_is;
    work_is = refl;
    follows = run.follows;
    on = loading_work_on live.state.heap.schema live.state.heap.log b w run.on;
    at_work = record {
      fed = run.at_work.fed;
      given = run.at_work.given;
      many = length-map building.workers handed_over ∙ run.at_work.many;
      taking = λ f k sent worker there at.
          let it = at_map handed_over building.workers k worker at in
          let of = run.at_work.taking fine k sent it.0 there it.1 in
          subst (IsWorkerOf b.number live.state.heap.schema w.specs true sent) it.2 (record {
            fine = of.fine;
            schema = of.schema;
            specs_are = of.specs_are;
            handed = refl;
            own = λ e. absurd (false≢true (sym e));
            none = λ e. refl;
            opened = λ e. still_open k it.0 it.1;
            taking = of.taking;
          });
      lent = λ f e. absurd (false≢true (sym e));
      drained = λ f e. (
        all,
        λ k sent worker there at.
            let it = at_map handed_over building.workers k worker at in
            let was = sealed k sent it.0 there it.1 in
            subst (IsSealed sent) it.2 (record { taken = was.taken; closed = was.closed }),
      );
      columns = λ f e. rw all_lent (lent_columns w.specs building.workers all_own all_closed holds (λ index. IsUnloaded index (record w { handed = true })));
    };
  }

  -- and callers see no difference
  pub handed_state : core_state live left ≡ core_state live building
  handed_state =
      let stake : SpoolValue → _ = λ s. s.stake in
      let spools : List SpoolValue = all_spools building.workers building.spools in
      let same : all_spools left.workers left.spools ≡ spools = ap (λ (l : List SpoolValue). spools ++ l) (none_left building.workers) ∙ append-nil spools in
      let states : work_state left.workers left.work ≡ work_state building.workers building.work =
      state_is left (record w { handed = true }) refl fine
      ∙ ap (λ ws. record { workers = ws; indexes = map index_state w.indexes; spoiled = None }) (mapped handed_over (λ (v : WorkerValue). worker_state v.intake) building.workers)
      ∙ sym (state_is building w run.work_is fine) in
      ap (λ (s : WorkState). record { live = live.state; work = s; spools = spools_state building.given (all_spools left.workers left.spools) }) states
      ∙ ap (λ (l : List SpoolValue). record { live = live.state; work = work_state building.workers building.work; spools = spools_state building.given l }) same

  -- as it was done
  pub handed_is : (new : BuildingValue) → HasHandedOver building new → new ≡ left
  handed_is new done =
      done.left ∙ ap (λ (v : WorkValue). record building {
        workers = map handed_over building.workers;
        spools = all_spools building.workers building.spools;
        work = Some (record v { handed = true });
      }) (same_Some done.work w (sym done.runs ∙ run.work_is))

-- Why the pairs of an index are not put in order.
use Rattle.std.proofs.Common.{◌≡◌, ℕ, zero-add, ◌+◌, ◌<◌, ◌≤◌, Bool, true, false, List, [], length, get_or, Option, Some, None, All, refl, sym, ap, ◌∙◌, arith, inl}
use Rattle.std.proofs.Common.{inr}
use Rattle.std.specs.Prelude.{not}
use Rattle.std.specs.List.{slice_get, range_with_len}
use Rattle.std.specs.Option.{option_map}
use Rattle.std.proofs.lemmas.Bool.{cases_Bool, lt-leb}
use Rattle.std.proofs.lemmas.List.{length-map}
use Rattle.keybytes.specs.Faults.{first_cause}
use Rattle.keybytes.specs.declared.fault.Fault.{Fault}
use Rattle.keybytes.specs.declared.fault.Fault.TheVariants.{BadCount, NotScanned, NotSealed}
use Rattle.side_file.specs.Ends.{PutEnd, RingId}
use Rattle.building.specs.Keeping.{KeepsLaws}
use Rattle.keybytes.specs.Keys.{KeySpecValue}
use Rattle.keybytes.specs.declared.kind.Kind.{Kind}
use Rattle.std.proofs.lemmas.Option.{slice_get_within}
use Rattle.page_workers.specs.Holding.{HoldsOpen}
use Rattle.page_workers.specs.Taking.{unsealed_images}
use Rattle.page_workers.specs.WorkerValue.{IsHolding, WorkerValue}
use Rattle.page_workers.specs.declared.copied.Copied.{Copied}
use Rattle.live_lemmas.specs.Builds.{LiveValue, core_state, IsRunning}
use Rattle.building.specs.BuildingValue.{BuildingValue, WorkValue, work_state, worker_state}
use Rattle.build_events.specs.CoreState.{BuildState, WorkState}
use Rattle.build_events.specs.Ranges.{first_that, open_range}
use Rattle.building.specs.Rings.{all_sent, AreSealed, FirstAreSealed, IsUnsealed, IsSealed, IsWorkerOf}
use Rattle.live_lemmas.specs.Rings.{ArePut}
use Rattle.build_events.specs.BuildSteps.{cause_if, build_cause, load_refusal}
use Rattle.build_events.specs.Workers.{is_sealed, worker_at, unsealed_worker}
use Rattle.build_events.proofs.NextPages.{first_left, none_left}
use Rattle.page_workers.proofs.Places.{all_at, all_from, there_is, map_at}
use Rattle.live_lemmas.proofs.Refusals.{state_is, worker_there}
use Rattle.live_lemmas.proofs.Waits.{sealed_is, from_is_sealed}
use Rattle.building.proofs.AtWork.{opened_in}

-- of the pairs that a worker took since its last seal those are in no run that don't fill one
pub record OpenRuns (specs : List KeySpecValue) (worker : WorkerValue) : Type 0 where
  pub many : length worker.maker.begun ≡ length specs
  pub opened : (index : ℕ) (spec : KeySpecValue) → slice_get specs index ≡ Some spec → HoldsOpen spec (unsealed_images spec.kinds worker.intake) (get_or worker.maker.begun index [])

-- they are those of a worker of the build, whether it has its spools or not
pub opened_of :
    {build : ℕ} {kinds : List Kind} {specs : List KeySpecValue} (handed : Bool) {sent : List Copied} (worker : WorkerValue)
    → IsWorkerOf build kinds specs handed sent worker → All (λ spec. spec.kinds ≡ kinds) specs → {rings : List RingId} → KeepsLaws rings worker
    → OpenRuns specs worker
opened_of true worker its columns laws =
    record { many = laws.begun ∙ ap length its.specs_are; opened = its.opened refl }
opened_of false worker its columns laws =
    record { many = laws.begun ∙ ap length its.specs_are; opened = opened_in its columns (laws.holding its.fine its.handed) }

-- the cause, by what comes into it
abbrev load_with : Bool → Option Fault → Option ℕ → Option ℕ → Option Fault
load_with past spoiled range unsealed =
    first_cause (cause_if past BadCount) (first_cause spoiled (first_cause (option_map NotScanned range) (option_map NotSealed unsealed)))

module _
    (live : LiveValue) (building : BuildingValue) (b : BuildState) (w : WorkValue) (run : IsRunning live building b w) (fine : w.spoiled ≡ None)
    (put : ArePut live.state.heap.schema live.state.heap.log b (all_sent live.pages)) where
  abbrev work : WorkState
  work = work_state building.workers building.work

  module _ (k : ℕ) (sent : List Copied) (worker : WorkerValue) (there : slice_get (all_sent live.pages) k ≡ Some sent)
      (at : slice_get building.workers k ≡ Some worker) (open_runs : OpenRuns w.specs worker) where
    its : IsWorkerOf b.number live.state.heap.schema w.specs w.handed sent worker
    its = run.at_work.taking fine k sent worker there at

    -- whether it is sealed is what callers see
    sealed_at : IsSealed sent worker → is_sealed b live.state.heap.log k (worker_at work k) ≡ true
    sealed_at sealed =
        ap (is_sealed b live.state.heap.log k) (worker_there live building b w run fine put k worker at)
        ∙ sealed_is live.state.heap.schema live.state.heap.log b k sent worker.intake (put k sent there) its.taking w.specs
        run.on.columns worker.maker open_runs.many open_runs.opened run.on.specs (record { taken = sealed.taken; closed = sealed.closed })

    pub sealed_there : is_sealed b live.state.heap.log k (worker_at work k) ≡ true → IsSealed sent worker
    sealed_there is =
        let done =
        from_is_sealed live.state.heap.schema live.state.heap.log b k sent worker.intake (put k sent there) its.taking w.specs
        run.on.columns worker.maker open_runs.many open_runs.opened run.on.specs
        (sym (ap (is_sealed b live.state.heap.log k) (worker_there live building b w run fine put k worker at)) ∙ is) in
        record { taken = done.taken; closed = done.closed }

  module _ (rings : length live.pages ≡ 16) (page_rings : List RingId) (laws : All (KeepsLaws page_rings) building.workers) where
    its_place : (k : ℕ) (worker : WorkerValue) → slice_get building.workers k ≡ Some worker
        → (sent : List Copied) × IsWorkerOf b.number live.state.heap.schema w.specs w.handed sent worker
    its_place k worker at =
        let less = slice_get_within building.workers k worker at in
        let end = there_is live.pages k (omega (arith, less, run.at_work.many, run.follows.few_workers, rings)) in
        let there = map_at (λ (e : PutEnd Copied). e.sent) live.pages k end.0 end.1 in
        (end.0.sent, run.at_work.taking fine k end.0.sent worker there at)

    pub open_runs : (k : ℕ) (worker : WorkerValue) → slice_get building.workers k ≡ Some worker → OpenRuns w.specs worker
    open_runs k worker at =
        opened_of w.handed worker (its_place k worker at).1 run.on.columns (all_at (KeepsLaws page_rings) building.workers k worker laws at)

    -- before the first load each holds the pairs of what it took
    pub all_holding : w.handed ≡ false → All (λ x. IsHolding x.intake x.maker x.spools) building.workers
    all_holding handed = all_from (λ (x : WorkerValue). IsHolding x.intake x.maker x.spools) building.workers each where
      each : (k : ℕ) (x : WorkerValue) → slice_get building.workers k ≡ Some x → IsHolding x.intake x.maker x.spools
      each k x at =
          let its = (its_place k x at).1 in
          (all_at (KeepsLaws page_rings) building.workers k x laws at).holding its.fine (its.handed ∙ handed)

  module _ (rings : length live.pages ≡ 16) (open_runs : (k : ℕ) (worker : WorkerValue) → slice_get building.workers k ≡ Some worker → OpenRuns w.specs worker) where
    -- callers see so many workers as the build has
    count_is : length work.workers ≡ length building.workers
    count_is =
        ap (λ (s : WorkState). length s.workers) (state_is building w run.work_is fine) ∙ length-map building.workers (λ (v : WorkerValue). worker_state v.intake)

    abbrev is_unsealed : ℕ → Bool
    is_unsealed k = not (is_sealed b live.state.heap.log k (worker_at work k))

    -- a worker that is sealed is not unsealed
    not_unsealed : (k count : ℕ) → k < count → count ≤ length building.workers → FirstAreSealed count (all_sent live.pages) building.workers → is_unsealed (0 + k) ≡ false
    not_unsealed k count less within sealed =
        let end = there_is live.pages k (omega (arith, less, within, run.at_work.many, run.follows.few_workers, rings)) in
        let it = there_is building.workers k (omega (arith, less, within)) in
        let there = map_at (λ (e : PutEnd Copied). e.sent) live.pages k end.0 end.1 in
        ap is_unsealed (zero-add k)
        ∙ ap not (sealed_at k end.0.sent it.0 there it.1 (open_runs k it.0 it.1) (sealed k end.0.sent it.0 less there it.1))

    unsealed_there : (k : ℕ) → k < length building.workers → IsUnsealed k (all_sent live.pages) building.workers → is_unsealed (0 + k) ≡ true
    unsealed_there k less unsealed =
        let end = there_is live.pages k (omega (arith, less, run.at_work.many, run.follows.few_workers, rings)) in
        let it = there_is building.workers k less in
        let there = map_at (λ (e : PutEnd Copied). e.sent) live.pages k end.0 end.1 in
        ap is_unsealed (zero-add k) ∙ elim (cases_Bool (is_sealed b live.state.heap.log k (worker_at work k))) [
          | inl sealed ↦ absurd (unsealed end.0.sent it.0 there it.1 (sealed_there k end.0.sent it.0 there it.1 (open_runs k it.0 it.1) sealed))
          | inr not_sealed ↦ ap not not_sealed
        ]

    none_unsealed : AreSealed (all_sent live.pages) building.workers → unsealed_worker b live.state.heap.log work ≡ None
    none_unsealed sealed =
        ap (λ (n : ℕ). first_that is_unsealed (range_with_len 0 n)) count_is
        ∙ none_left is_unsealed 0 (length building.workers)
        (λ k less. not_unsealed k (length building.workers) less (omega arith) (λ j sent worker low there at. sealed j sent worker there at))

    first_unsealed :
        (k : ℕ) → k < length building.workers → FirstAreSealed k (all_sent live.pages) building.workers → IsUnsealed k (all_sent live.pages) building.workers
        → unsealed_worker b live.state.heap.log work ≡ Some k
    first_unsealed k less sealed unsealed =
        ap (λ (n : ℕ). first_that is_unsealed (range_with_len 0 n)) count_is
        ∙ first_left is_unsealed 0 (length building.workers) k (λ n low. not_unsealed n k low (omega (arith, less)) sealed) less (unsealed_there k less unsealed)
        ∙ ap (λ n. Some n) (zero-add k)

    -- it depends on the workers alone, where the index is there
    load_cause :
        (index : ℕ) (unsealed : Option ℕ) → index < length b.specs → open_range b ≡ None → unsealed_worker b live.state.heap.log work ≡ unsealed
        → build_cause live.state.build (λ x. load_refusal x (core_state live building) index) ≡ option_map NotSealed unsealed
    load_cause index unsealed there all is =
        ap (λ (o : Option BuildState). build_cause o (λ x. load_refusal x (core_state live building) index)) run.build_is
        ∙ ap (λ (past : Bool). load_with past work.spoiled (open_range b) (unsealed_worker b live.state.heap.log work)) (lt-leb (length b.specs) index there)
        ∙ ap (λ (s : WorkState). load_with false s.spoiled (open_range b) (unsealed_worker b live.state.heap.log work)) (state_is building w run.work_is fine)
        ∙ ap (λ (o : Option ℕ). load_with false None o (unsealed_worker b live.state.heap.log work)) all
        ∙ ap (load_with false None None) is

    -- where all are sealed nothing is against it
    pub load_free :
        (index : ℕ) → index < length b.specs → open_range b ≡ None → AreSealed (all_sent live.pages) building.workers
        → build_cause live.state.build (λ x. load_refusal x (core_state live building) index) ≡ None
    load_free index there all sealed = load_cause index None there all (none_unsealed sealed)

    -- the first that isn't is the cause
    pub load_unsealed :
        (index k : ℕ) → index < length b.specs → open_range b ≡ None → k < length building.workers → FirstAreSealed k (all_sent live.pages) building.workers
        → IsUnsealed k (all_sent live.pages) building.workers
        → build_cause live.state.build (λ x. load_refusal x (core_state live building) index) ≡ Some (NotSealed k)
    load_unsealed index k there all less sealed unsealed = load_cause index (Some k) there all (first_unsealed k less sealed unsealed)

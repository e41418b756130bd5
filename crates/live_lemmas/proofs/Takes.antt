-- A worker of a running build takes copies.
use Rattle.std.proofs.Common.{◌≡◌, ℕ, ◌*◌, true, List, [], length, map, set, Option, Some, None, refl, sym, ap, ◌∙◌}
use Rattle.std.proofs.Common.{subst, inl, inr, length-set}
use Rattle.std.specs.Prelude.{Result, Ok, Err, IfErr}
use Rattle.std.specs.List.{slice_get}
use Rattle.std.proofs.lemmas.List.{map-set}
use Rattle.std.proofs.lemmas.Option.{same_Some}
use Rattle.keybytes.specs.declared.fault.Fault.{Fault}
use Rattle.run_maker.specs.Making.{MakerValue, spec_at}
use Rattle.page_workers.specs.Copies.{images_of}
use Rattle.page_workers.specs.Holding.{HoldsPairs}
use Rattle.page_workers.specs.SpoolValue.{stakes_of}
use Rattle.page_workers.specs.Taking.{received_images}
use Rattle.side_file.specs.Ends.{TakeEnd}
use Rattle.page_workers.specs.WorkerValue.{WorkerValue}
use Rattle.page_workers.specs.declared.copied.Copied.{Copied}
use Rattle.live_lemmas.specs.Builds.{LiveValue, IsRunning, StandsBeside}
use Rattle.building.specs.BuildingValue.{BuildingValue, WorkValue, IsUnloaded, worker_state, index_state, state_unless, work_state}
use Rattle.building.specs.WorkOn.{IsWorkOfBuild, AreFed}
use Rattle.live_lemmas.specs.Builds.{core_state}
use Rattle.build_events.specs.CoreState.{BuildState, WorkState, SpoolsState, spoiled_work}
use Rattle.building.specs.Holding.{HaveColumns, all_spools, spools_state}
use Rattle.building.specs.Rings.{all_sent, AreSealed, IsSealed, IsWorkerOf}
use Rattle.live_lemmas.specs.Rings.{ArePut, HasPut, PagesFollow}
use Rattle.build_events.specs.Steps.{spoiled_by}
use Rattle.building.proofs.Spoiled.{IsSpoiled}
use Rattle.building.proofs.AtWork.{taking_set}
use Rattle.page_workers.proofs.Places.{at_set}
use Rattle.live_lemmas.proofs.Refusals.{works_with}
use Rattle.building.proofs.Works.{spoiled_work_on}
use Rattle.building.proofs.Stakes.{all_stakes}

-- what was put for the running build
pub put_of :
    (live : LiveValue) (b : BuildState) → live.state.build ≡ Some b
    → PagesFollow live.state.heap.schema live.state.heap.log live.state.builds live.state.build (all_sent live.pages)
    → ArePut live.state.heap.schema live.state.heap.log b (all_sent live.pages)
put_of live b is follow =
    let has : HasPut live.state.heap.schema live.state.heap.log live.state.builds b (all_sent live.pages) =
    subst (λ (o : Option BuildState). PagesFollow live.state.heap.schema live.state.heap.log live.state.builds o (all_sent live.pages)) is follow in
    has.put

module _
    (live : LiveValue) (building : BuildingValue) (b : BuildState) (w : WorkValue) (run : IsRunning live building b w) (fine : w.spoiled ≡ None)
    (k : ℕ) (sent : List Copied) (it after : WorkerValue) (there : slice_get (all_sent live.pages) k ≡ Some sent) (at : slice_get building.workers k ≡ Some it)
    (own : IsWorkerOf b.number live.state.heap.schema w.specs w.handed sent after)
    -- in a load it only seals what it took
    (kept : w.handed ≡ true → (after.maker ≡ it.maker) × (after.intake.end ≡ it.intake.end) × (after.intake.build ≡ it.intake.build)) where
  -- the build goes on with the worker
  abbrev pub going_on : BuildingValue
  going_on = record building { workers = set building.workers k after }

  still_sealed : w.handed ≡ true → AreSealed (all_sent live.pages) building.workers → AreSealed (all_sent live.pages) (set building.workers k after)
  still_sealed handed sealed j s worker put_there here = elim (at_set building.workers k after j worker here) [
    | inl same ↦
        let was : IsSealed s it = sealed j s it put_there (ap (slice_get building.workers) same.0 ∙ at) in
        let parts = kept handed in
        subst (IsSealed s) (sym same.1) (record {
          taken = ap (λ (e : TakeEnd Copied). e.received) parts.1 ∙ was.taken;
          closed = rw parts.0 was.closed;
        })
    | inr other ↦ sealed j s worker put_there other.1
  ]

  same_images : w.handed ≡ true → received_images after.maker.schema after.intake ≡ received_images it.maker.schema it.intake
  same_images handed =
      let parts = kept handed in
      ap (λ (m : MakerValue). received_images m.schema after.intake) parts.0
      ∙ ap (λ (e : TakeEnd Copied). images_of after.intake.build it.maker.schema e.received) parts.1
      ∙ ap (λ (n : ℕ). images_of n it.maker.schema it.intake.end.received) parts.2

  still_columns :
      w.handed ≡ true → HaveColumns (λ index. IsUnloaded index w) w.specs building.workers building.spools
      → HaveColumns (λ index. IsUnloaded index w) w.specs (set building.workers k after) building.spools
  still_columns handed columns = record {
    many = columns.many ∙ ap (λ (n : ℕ). n * length w.specs) (sym (length-set building.workers k after));
    sorted = columns.sorted;
    pairs = λ index j worker spool less opened here lent. elim (at_set building.workers k after j worker here) [
      | inl same ↦
          let was = columns.pairs index j it spool less opened (ap (slice_get building.workers) same.0 ∙ at) lent in
          subst (λ (v : WorkerValue). HoldsPairs (spec_at w.specs index) (received_images v.maker.schema v.intake) spool.runs []) (sym same.1)
          (subst (λ images. HoldsPairs (spec_at w.specs index) images spool.runs []) (sym (same_images handed)) was)
      | inr other ↦ columns.pairs index j worker spool less opened other.1 lent
    ];
  }

  pub goes_on : StandsBeside live going_on
  goes_on =
      works_with live going_on b w (record {
        build_is = run.build_is;
        work_is = run.work_is;
        follows = run.follows;
        on = run.on;
        at_work = record {
          fed = run.at_work.fed;
          given = run.at_work.given;
          many = length-set building.workers k after ∙ run.at_work.many;
          taking = λ f. taking_set b.number live.state.heap.schema w.specs w.handed (all_sent live.pages) building.workers k after (run.at_work.taking fine)
              (λ s is. subst (λ (x : List Copied). IsWorkerOf b.number live.state.heap.schema w.specs w.handed x after) (same_Some sent s (sym there ∙ is)) own);
          lent = run.at_work.lent;
          drained = λ f handed. ((run.at_work.drained fine handed).0, still_sealed handed (run.at_work.drained fine handed).1);
          columns = λ f handed. still_columns handed (run.at_work.columns fine handed);
        };
      })

  -- one worker's state among those of all
  pub states_set :
      map (λ (v : WorkerValue). worker_state v.intake) (set building.workers k after)
      ≡ set (map (λ (v : WorkerValue). worker_state v.intake) building.workers) k (worker_state after.intake)
  states_set = map-set (λ (v : WorkerValue). worker_state v.intake) building.workers k after

  -- the spools are given, as they were
  pub spools_are :
      stakes_of after.spools ≡ stakes_of it.spools
      → spools_state building.given (all_spools (set building.workers k after) building.spools) ≡ spools_state building.given (all_spools building.workers building.spools)
  spools_are same = rw run.at_work.given (ap (λ stakes. record { stakes = stakes; left = [] }) (all_stakes building.workers building.spools k it after at same))

-- the build is spoiled, and stands so
pub spoiled_works :
    (live : LiveValue) (fault : Fault) (building new : BuildingValue) (b : BuildState) (w : WorkValue) → IsRunning live building b w
    → IsSpoiled fault building new → StandsBeside live new
spoiled_works live fault building new b w run spoiled =
    let left : WorkValue = record spoiled.work { spoiled = Some fault } in
    let other : BuildingValue = record building { workers = spoiled.workers; spools = spoiled.spools; work = Some left } in
    let same : w ≡ spoiled.work = same_Some w spoiled.work (sym run.work_is ∙ spoiled.runs) in
    let on : IsWorkOfBuild live.state.heap.schema live.state.heap.log b spoiled.work = subst (IsWorkOfBuild live.state.heap.schema live.state.heap.log b) same run.on in
    subst (StandsBeside live) (sym spoiled.left)
    (works_with live other b left (record {
      build_is = run.build_is;
      work_is = refl;
      follows = run.follows;
      on = spoiled_work_on live.state.heap.schema live.state.heap.log b spoiled.work fault on;
      at_work = record {
        fed = subst (λ (x : WorkValue). AreFed b x.indexes live.sides building.sides) same run.at_work.fed;
        given = run.at_work.given;
        many = spoiled.many ∙ run.at_work.many;
        taking = λ f. absurd (cc);
        lent = λ f. absurd (cc);
        drained = λ f. absurd (cc);
        columns = λ f. absurd (cc);
      };
    }))

-- callers see of it what its index applied
still_spoiled :
    (fault : Fault) (o : Option Fault) (workers : List WorkerValue) (w : WorkValue)
    → spoiled_work fault (state_unless o workers w) ≡ record { workers = []; indexes = map index_state w.indexes; spoiled = Some fault }
still_spoiled fault None workers w = refl
still_spoiled fault (Some other) workers w = refl

-- and so do callers see it
pub spoiled_state :
    (live : LiveValue) (fault : Fault) (building new : BuildingValue) (b : BuildState) (w : WorkValue) → IsRunning live building b w
    → IsSpoiled fault building new → core_state live new ≡ spoiled_by fault (core_state live building)
spoiled_state live fault building new b w run spoiled =
    let spools : spools_state building.given (all_spools spoiled.workers spoiled.spools) ≡ spools_state building.given (all_spools building.workers building.spools) =
    rw run.at_work.given (ap (λ stakes. record { stakes = stakes; left = [] }) spoiled.stakes) in
    let same : spoiled.work ≡ w = same_Some spoiled.work w (sym spoiled.runs ∙ run.work_is) in
    ap (core_state live) spoiled.left
    ∙ ap (λ (s : SpoolsState). record { live = live.state; work = spoiled_as spoiled.work; spools = s }) spools
    ∙ ap (λ (x : WorkValue). record { live = live.state; work = spoiled_as x; spools = spools_state building.given (all_spools building.workers building.spools) }) same
    ∙ ap (λ (s : WorkState). record { live = live.state; work = s; spools = spools_state building.given (all_spools building.workers building.spools) })
    (sym (ap (λ (o : Option WorkValue). spoiled_work fault (work_state building.workers o)) run.work_is ∙ still_spoiled fault w.spoiled building.workers w)) where
      spoiled_as : WorkValue → WorkState
      spoiled_as x = record { workers = []; indexes = map index_state x.indexes; spoiled = Some fault }

-- whatever was answered, callers see it where the build is spoiled
pub spoiled_after :
    (live : LiveValue) (building new : BuildingValue) (b : BuildState) (w : WorkValue) → IsRunning live building b w → (answer : Result ℕ Fault)
    → IfErr answer (λ fault. IsSpoiled fault building new) → IfErr answer (λ fault. core_state live new ≡ spoiled_by fault (core_state live building))
spoiled_after live building new b w run (Ok count) spoiled = tt
spoiled_after live building new b w run (Err fault) spoiled = spoiled_state live fault building new b w run spoiled

-- A switch of the work that goes with the build: it is the build's, and nothing is left over of what its workers were sent.
use Rattle.std.proofs.Common.{◌≡◌, ℕ, true, length, Option, Some, None, Result, Ok, Err, IfErr, refl, sym, ap, ◌∙◌, subst, inl, inr, arith}
use Rattle.std.specs.Option.{option_map}
use Rattle.keybytes.specs.declared.fault.Fault.{Fault}
use Rattle.keybytes.specs.declared.fault.Fault.TheVariants.{NotScanned}
use Rattle.keybytes.proofs.FirstCause.{both_none}
use Rattle.side_file.specs.Ends.{PutEnd}
use Rattle.page_workers.specs.declared.copied.Copied.{Copied}
use Rattle.build_events.specs.BuildSteps.{build_cause, switch_refusal}
use Rattle.build_events.specs.CoreState.{BuildState, CoreState}
use Rattle.build_events.specs.Ranges.{open_range}
use Rattle.build_events.specs.Steps.{IsRefused}
use Rattle.build_events.specs.declared.event.Event.TheVariants.{Switch}
use Rattle.table_scan.specs.TableBuilds.{BuildFollows}
use Rattle.building.specs.BuildingValue.{BuildingValue, WorkValue, work_state}
use Rattle.building.specs.Keeping.{IsKept, KeepsWork}
use Rattle.building.specs.WorkOn.{WorkMatches}
use Rattle.page_workers.proofs.Places.{map_at, there_is}
use Rattle.live_lemmas.specs.Builds.{IsRunning, LiveValue, StandsBeside, core_state}
use Rattle.live_lemmas.specs.Switching.{HasLeftCopy, HaveAll, IsForeign, IsPartOf, KeepsOut, RefusesSwitch, early_cause}
use Rattle.live_lemmas.proofs.EarlyCauses.{early_is, first_unloaded, switch_refused}
use Rattle.live_lemmas.proofs.Refusals.{running}
use Rattle.live_lemmas.proofs.Reunited.{all_loaded, handed}
use Rattle.live_lemmas.proofs.Unloaded.{no_fault}

-- where a build runs there is work
work_there :
    (live : LiveValue) (building : BuildingValue) (b : BuildState) → live.state.build ≡ Some b → StandsBeside live building
    → (w : WorkValue) × (building.work ≡ Some w)
work_there live building b runs works = by_work building.work refl where
  by_work : (o : Option WorkValue) → building.work ≡ o → (w : WorkValue) × (building.work ≡ Some w)
  by_work (Some w) is = (w, is)
  by_work None is =
      absurd (subst (λ (o : Option BuildState). WorkMatches live.state.heap.schema live.state.heap.log o None) runs
      (subst (WorkMatches live.state.heap.schema live.state.heap.log live.state.build) is works.work))

module _
    (live : LiveValue) (building : BuildingValue) (follows : BuildFollows live.state.heap.schema live.state.heap.log live.state.build) (works : StandsBeside live building) where
  -- the work is the build's
  pub own_part : (b : BuildState) → live.state.build ≡ Some b → IsPartOf live building
  own_part b runs =
      let work = work_there live building b runs works in
      let run = running live building b work.0 runs work.1 follows works in
      record {
        of = record {
          build = b;
          runs = runs;
          work = work.0;
          there = work.1;
          number = run.on.number;
          specs = run.on.specs;
          many = run.on.many;
          workers = run.at_work.many;
        };
        fed = run.at_work.fed;
      }

  -- and once its indexes are in order its workers have taken all
  module _ (rings : length live.pages ≡ 16) (keeps : KeepsWork building.workers building.sides building.spools building.work) where
    none_left : (fault : Fault) → HasLeftCopy true live building fault → ⊥
    none_left fault left =
        let of = left.part.of in
        let b = of.build in
        let w = of.work in
        let run : IsRunning live building b w = running live building b w of.runs of.there follows works in
        let parts = both_none w.spoiled _ (sym (early_is true live building b w of.runs of.there) ∙ left.first) in
        let fine : w.spoiled ≡ None = parts.0 in
        let later = both_none (option_map NotScanned (open_range b)) _ parts.1 in
        let kept : IsKept building.workers building.sides building.spools w =
        subst (λ (o : Option WorkValue). KeepsWork building.workers building.sides building.spools o) of.there keeps fine in
        let loads : w.handed ≡ true = handed live building left.part kept run.follows (all_loaded w.indexes (sym (no_fault (first_unloaded w) later.1))) in
        let k : ℕ = left.worker in
        let worker = there_is building.workers k left.lowest.there in
        let end = there_is live.pages k (omega (arith, left.lowest.there, run.at_work.many, run.follows.few_workers, rings)) in
        let sent = map_at (λ (e : PutEnd Copied). e.sent) live.pages k end.0 end.1 in
        left.lowest.unsealed end.0.sent worker.0 sent worker.1 ((run.at_work.drained fine loads).1 k end.0.sent worker.0 sent worker.1)

    -- so each refusal of its switch is one of the event
    pub own_refused :
        (fault : Fault) (new_live : LiveValue) (new : BuildingValue) → core_state new_live new ≡ core_state live building → KeepsOut true live building fault
        → IsRefused (core_state live building) Switch fault (core_state new_live new)
    own_refused fault new_live new unchanged cause = elim cause [
      | inl foreign ↦ no_build foreign
      | inr others ↦ elim others [
        | inl early ↦ inl (switch_refused (core_state live building) fault early.cause, unchanged)
        | inr left ↦ absurd (none_left fault left)
      ]
    ] where
      no_build : IsForeign live building fault → IsRefused (core_state live building) Switch fault (core_state new_live new)
      no_build foreign = by_build live.state.build refl where
        by_build : (o : Option BuildState) → live.state.build ≡ o → IsRefused (core_state live building) Switch fault (core_state new_live new)
        by_build (Some b) runs = absurd (foreign.foreign (own_part b runs))
        by_build None runs = inl (
          ap (λ (o : Option BuildState). build_cause o (λ b. switch_refusal b live.state.heap (work_state building.workers building.work))) runs
              ∙ ap Some (sym foreign.no_build),
          unchanged,
        )

-- what was taken in, and its switch refused
pub refused_after :
    {X : Type 0} (live mid new_live : LiveValue) (building beside new : BuildingValue) (answer : Result X Fault)
    → core_state mid beside ≡ core_state live building → IsPartOf live building × HaveAll live building → early_cause true (core_state live building) ≡ None
    → IfErr answer (λ fault. IsRefused (core_state mid beside) Switch fault (core_state new_live new)) → StandsBeside new_live new
    → IfErr answer (λ fault. RefusesSwitch live building fault new_live new)
refused_after live mid new_live building beside new (Ok x) same taken first refused works = tt
refused_after live mid new_live building beside new (Err fault) same taken first refused works = inr (record {
  part = taken.0;
  first = first;
  all = taken.1;
  refused = subst (λ (s : CoreState). IsRefused s Switch fault (core_state new_live new)) same refused;
  works = works;
})

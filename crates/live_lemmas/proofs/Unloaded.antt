-- The lowest index whose pairs are not in order.
use Rattle.std.proofs.Common.{◌≡◌, ℕ, ◌<◌, ◌≤◌, Bool, false, List, length, map, Option, Some, None, refl, sym, ap, ◌∙◌, subst, arith}
use Rattle.std.specs.Prelude.{is_some, nat_lt, not, true}
use Rattle.std.specs.Option.{option_map}
use Rattle.std.specs.List.{position}
use Rattle.std.proofs.lemmas.Bool.{false_from_ne_true, lt-ltb, ltb-true}
use Rattle.keybytes.specs.declared.fault.Fault.{Fault}
use Rattle.keybytes.specs.declared.fault.Fault.TheVariants.{NoBuild, NotLoaded, NotScanned, Behind}
use Rattle.keybytes.specs.Faults.{first_cause}
use Rattle.heap_table.specs.HeapState.{busy_txns}
use Rattle.live_lemmas.specs.Builds.{LiveValue, IsRunning, StandsBeside, core_state, cause_of}
use Rattle.building.specs.BuildingValue.{BuildingValue, WorkValue, IndexValue, index_state, work_state}
use Rattle.live_lemmas.specs.CatchingUp.{MayCatchUp}
use Rattle.live_lemmas.specs.Switching.{early_cause}
use Rattle.build_events.specs.declared.event.Event.TheVariants.{Switch}
use Rattle.build_events.specs.CoreState.{BuildState, IndexState, WorkState, CoreState}
use Rattle.build_events.specs.Ranges.{open_range}
use Rattle.build_events.specs.BuildSteps.{OnBuild, CatchesUp, AreFurther, build_cause, cause_if, index_refusal, apply_refusal, behind_refusal, busy_refusal}
use Rattle.build_events.specs.BuildSteps.{switch_refusal}
use Rattle.build_events.specs.Steps.{refusal}
use Rattle.build_events.specs.Workers.{all_unapplied, index_at, unloaded_index}
use Rattle.std.proofs.lemmas.Option.{get_or_from_slice_get}
use Rattle.live_lemmas.proofs.ApplyCauses.{inside_of}
use Rattle.keybytes.proofs.FirstCause.{both_none}
use Rattle.live_lemmas.proofs.LeftOver.{indexes_many}
use Rattle.live_lemmas.proofs.Refusals.{state_of, state_is}
use Rattle.page_workers.proofs.Places.{there_is}
use Rattle.building.proofs.Positions.{all_fail, position_of}

-- callers see that index too
pub unloaded_seen :
    (indexes : List IndexValue) → position (λ (index : IndexState). not index.loaded) (map index_state indexes) ≡ position (λ (index : IndexValue). not (is_some index.built)) indexes
unloaded_seen indexes = position_of (λ (index : IndexState). not index.loaded) index_state indexes

-- why a build that isn't spoiled, and whose pages are all copied, isn't switched in
module _
    (live : LiveValue) (building : BuildingValue) (b : BuildState) (w : WorkValue) (run : IsRunning live building b w) (fine : w.spoiled ≡ None)
    (all : open_range b ≡ None) where
  abbrev switch_cause : Option Fault
  switch_cause = build_cause live.state.build (λ x. switch_refusal x live.state.heap (work_state building.workers building.work))

  unloaded_at : (o : Option ℕ) → o ≡ position (λ (index : IndexValue). not (is_some index.built)) w.indexes → unloaded_index (state_of building w) ≡ o
  unloaded_at o is = unloaded_seen w.indexes ∙ sym is

  pub one_unloaded : (index : ℕ) → Some index ≡ position (λ (i : IndexValue). not (is_some i.built)) w.indexes → switch_cause ≡ Some (NotLoaded index)
  one_unloaded index is =
      rw (run.build_is, state_is building w run.work_is fine, all, unloaded_at (Some index) is) refl

  module _
      (none : None ≡ position (λ (i : IndexValue). not (is_some i.built)) w.indexes) (left : ℕ)
      (sum : OnBuild live.state.build (λ x. left ≡ all_unapplied x live.state.heap.log x.specs (work_state building.workers building.work).indexes)) where
    abbrev now_left : ℕ
    now_left = all_unapplied b live.state.heap.log b.specs (state_of building w).indexes

    left_is : left ≡ now_left
    left_is =
        subst (λ (o : Option BuildState). OnBuild o (λ x. left ≡ all_unapplied x live.state.heap.log x.specs (work_state building.workers building.work).indexes)) run.build_is sum
        ∙ ap (λ (s : WorkState). all_unapplied b live.state.heap.log b.specs s.indexes) (state_is building w run.work_is fine)

    last_causes : switch_cause ≡ first_cause (behind_refusal left) (busy_refusal b (length (busy_txns live.state.heap)))
    last_causes =
        ap (λ (o : Option BuildState). build_cause o (λ x. switch_refusal x live.state.heap (work_state building.workers building.work))) run.build_is
        ∙ ap (switch_refusal b live.state.heap) (state_is building w run.work_is fine)
        ∙ rw (all, unloaded_at None none, sym left_is) refl

    pub too_far_behind : 1024 < left → switch_cause ≡ Some (Behind left)
    too_far_behind more = last_causes ∙ ap (λ (test : Bool). first_cause (cause_if test (Behind left)) (busy_refusal b (length (busy_txns live.state.heap)))) (lt-ltb 1024 left more)

    pub waits_for_writers : left ≤ 1024 → switch_cause ≡ busy_refusal b (length (busy_txns live.state.heap))
    waits_for_writers few =
        last_causes
        ∙ ap (λ (test : Bool). first_cause (cause_if test (Behind left)) (busy_refusal b (length (busy_txns live.state.heap))))
        (false_from_ne_true (nat_lt 1024 left) (λ more. let less = ltb-true 1024 left more in omega (arith, less, few)))

pub no_fault : (o : Option ℕ) → option_map NotLoaded o ≡ None → o ≡ None
no_fault None none = refl
no_fault (Some index) none = absurd (cc)

-- what a switch needs is what keeps no entry from being applied
module _ (live : LiveValue) (building : BuildingValue) where
  abbrev now : WorkState
  now = work_state building.workers building.work

  -- work that isn't spoiled, with the pairs of each index in order
  may_by_causes : StandsBeside live building → (b : BuildState) → live.state.build ≡ Some b → now.spoiled ≡ None → unloaded_index now ≡ None → MayCatchUp (core_state live building)
  may_by_causes works b runs fine none =
      let many = indexes_many live building b runs works in
      subst (λ (o : Option BuildState). OnBuild o (λ x. (index : ℕ) → index < length x.specs → apply_refusal x now index ≡ None)) (sym runs)
      (λ index less.
      let it = there_is now.indexes index (omega (arith, less, many)) in
      let fails = all_fail (λ (i : IndexState). not i.loaded) now.indexes none index it.0 it.1 in
      let seen : index_at now.indexes index ≡ it.0 = get_or_from_slice_get now.indexes index it.0 _ it.1 in
      let told : not (index_at now.indexes index).loaded ≡ false = ap (λ (i : IndexState). not i.loaded) seen ∙ fails in
      rw (inside_of b index less, fine, told) refl)

  pub may_catch_up : StandsBeside live building → cause_of live building Switch ≡ None → MayCatchUp (core_state live building)
  may_catch_up works free = by_build live.state.build refl where
    by_build : (o : Option BuildState) → live.state.build ≡ o → MayCatchUp (core_state live building)
    by_build None gone =
        absurd (let bad : Some NoBuild ≡ None = ap (λ (o : Option BuildState). build_cause o (λ b. switch_refusal b live.state.heap now)) (sym gone) ∙ free in cc)
    by_build (Some b) runs =
        let causes : switch_refusal b live.state.heap now ≡ None =
        ap (λ (o : Option BuildState). build_cause o (λ x. switch_refusal x live.state.heap now)) (sym runs) ∙ free in
        let fine = both_none now.spoiled _ causes in
        let scanned = both_none (option_map NotScanned (open_range b)) _ fine.1 in
        let loaded = both_none (option_map NotLoaded (unloaded_index now)) _ scanned.1 in
        may_by_causes works b runs fine.0 (no_fault (unloaded_index now) loaded.0)

  -- so does one that nothing keeps waiting before its workers are asked
  pub early_may : StandsBeside live building → early_cause true (core_state live building) ≡ None → MayCatchUp (core_state live building)
  early_may works free = by_build live.state.build refl where
    early : BuildState → Option Fault
    early b = first_cause now.spoiled (first_cause (option_map NotScanned (open_range b)) (option_map NotLoaded (unloaded_index now)))

    by_build : (o : Option BuildState) → live.state.build ≡ o → MayCatchUp (core_state live building)
    by_build None gone = absurd (let bad : Some NoBuild ≡ None = ap (λ (o : Option BuildState). build_cause o early) (sym gone) ∙ free in cc)
    by_build (Some b) runs =
        let causes : early b ≡ None = ap (λ (o : Option BuildState). build_cause o early) (sym runs) ∙ free in
        let fine = both_none now.spoiled _ causes in
        let scanned = both_none (option_map NotScanned (open_range b)) _ fine.1 in
        may_by_causes works b runs fine.0 (no_fault (unloaded_index now) scanned.1)

-- and still is once the indexes caught up
pub may_after : (s new : CoreState) → CatchesUp s new → MayCatchUp s → MayCatchUp new
may_after s new caught may = by_build s.live.build refl caught where
  Caught : BuildState → Type 0
  Caught b = (fed : List ℕ) × (indexes : List IndexState) × AreFurther b s.live.heap.log s.work.indexes fed indexes
      × (new ≡ record s { live = record s.live { build = Some (record b { fed = fed }) }; work = record s.work { indexes = indexes } })

  by_build : (o : Option BuildState) → s.live.build ≡ o → OnBuild o Caught → MayCatchUp new
  by_build None is it = absurd it
  by_build (Some b) is it =
      subst MayCatchUp (sym it.3) (λ index less.
      let spec = there_is b.specs index less in
      let same = (it.2.each index spec.0 spec.1).loaded in
      let was = subst (λ (o : Option BuildState). OnBuild o (λ x. (i : ℕ) → i < length x.specs → apply_refusal x s.work i ≡ None)) is may index less in
      ap (λ l. first_cause (index_refusal b index) (first_cause s.work.spoiled (cause_if (not l) (NotLoaded index)))) same ∙ was)

-- nor does it keep writers that the switch waits for
pub no_busy_cause :
    (s new : CoreState) → refusal s Switch ≡ None → CatchesUp s new
    → OnBuild new.live.build (λ b. busy_refusal b (length (busy_txns new.live.heap)) ≡ None)
no_busy_cause s new free caught = by_build s.live.build refl caught where
  Caught : BuildState → Type 0
  Caught b = (fed : List ℕ) × (indexes : List IndexState) × AreFurther b s.live.heap.log s.work.indexes fed indexes
      × (new ≡ record s { live = record s.live { build = Some (record b { fed = fed }) }; work = record s.work { indexes = indexes } })

  by_build : (o : Option BuildState) → s.live.build ≡ o → OnBuild o Caught → OnBuild new.live.build (λ b. busy_refusal b (length (busy_txns new.live.heap)) ≡ None)
  by_build None is it = absurd it
  by_build (Some b) is it =
      let causes : switch_refusal b s.live.heap s.work ≡ None =
      ap (λ (o : Option BuildState). build_cause o (λ x. switch_refusal x s.live.heap s.work)) (sym is) ∙ free in
      let fine = both_none s.work.spoiled _ causes in
      let scanned = both_none (option_map NotScanned (open_range b)) _ fine.1 in
      let loaded = both_none (option_map NotLoaded (unloaded_index s.work)) _ scanned.1 in
      let near = both_none (behind_refusal (all_unapplied b s.live.heap.log b.specs s.work.indexes)) _ loaded.1 in
      subst (λ (t : CoreState). OnBuild t.live.build (λ b. busy_refusal b (length (busy_txns t.live.heap)) ≡ None)) (sym it.3) near.1

-- Why no entries are applied to an index of a build, and what is known where nothing is in the way.
use Rattle.std.proofs.Common.{◌≡◌, ℕ, ◌+◌, ◌<◌, ◌≤◌, Bool, true, false, List, length, map, min, Option, Some, None, Result, Ok, Err, IfOk, OnErr, refl, sym, ap}
use Rattle.std.proofs.Common.{◌∙◌, subst, arith, inl, inr}
use Rattle.std.specs.Prelude.{is_some, not, nat_le, IfSome}
use Rattle.std.proofs.Math.Nat.{min-le_right}
use Rattle.std.proofs.lemmas.Bool.{false_from_ne_true, leb-true}
use Rattle.keybytes.proofs.FirstCause.{both_none}
use Rattle.keybytes.specs.Keys.{KeySpecValue}
use Rattle.keybytes.specs.declared.fault.Fault.{Fault}
use Rattle.keybytes.specs.declared.fault.Fault.TheVariants.{NoBuild, NotLoaded}
use Rattle.page_workers.specs.WorkerValue.{WorkerValue}
use Rattle.live_lemmas.specs.Builds.{LiveValue, IsRunning, StandsBeside, MayApply, SideIsLooked, SeesSideAt}
use Rattle.building.specs.BuildingValue.{BuildingValue, WorkValue, IndexValue, state_unless, work_state, index_state}
use Rattle.table_scan.specs.TableBuilds.{BuildFollows}
use Rattle.building.specs.WorkOn.{WorkMatches}
use Rattle.live_lemmas.specs.Builds.{core_state, cause_of}
use Rattle.build_events.specs.CoreState.{BuildState, IndexState, WorkState, CoreState}
use Rattle.table_scan.specs.SideFiles.{AreFedEntries}
use Rattle.build_events.specs.Workers.{index_at}
use Rattle.side_file.specs.Ends.{PutEnd}
use Rattle.side_file.specs.declared.entry.Entry.{Entry}
use Rattle.std.specs.List.{slice_get}
use Rattle.std.proofs.lemmas.Option.{get_or_from_slice_get}
use Rattle.page_workers.proofs.Places.{below, there_is, map_at}
use Rattle.building.proofs.Applying.{stays_built}
use Rattle.build_events.specs.BuildSteps.{OnBuild, Applies, AppliesSome, MayTakeMemory, build_cause, cause_if, apply_refusal, index_refusal, next_applied, after_apply}
use Rattle.build_events.specs.Steps.{refusal}
use Rattle.building.specs.Working.{CanApply, HasApplied, StopsApplying}
use Rattle.build_events.specs.declared.event.Event.TheVariants.{Apply}
use Rattle.live_lemmas.proofs.Feeding.{works_side_looked, state_side_looked}
use Rattle.live_lemmas.proofs.IndexApplied.{AppliesNext, ring_is, can_apply, counts_more, may_take, works_applied, state_applied}
use Rattle.live_lemmas.proofs.Refusals.{running, state_is}
use Rattle.table_scan.proofs.SideEnds.{index_below}

-- the work isn't spoiled, and the pairs of the index are in order
pub fine_by :
    (b : BuildState) (w : WorkValue) (workers : List WorkerValue) (index : ℕ) (it : IndexValue) → slice_get w.indexes index ≡ Some it
    → (o : Option Fault) → apply_refusal b (state_unless o workers w) index ≡ None → (o ≡ None) × (is_some it.built ≡ true)
fine_by b w workers index it at None free =
    let seen : index_at (map index_state w.indexes) index ≡ index_state it =
    get_or_from_slice_get (map index_state w.indexes) index (index_state it) _ (map_at index_state w.indexes index it at) in
    let rest : cause_if (not (index_at (map index_state w.indexes) index).loaded) (NotLoaded index) ≡ None =
    (both_none (index_refusal b index) (cause_if (not (index_at (map index_state w.indexes) index).loaded) (NotLoaded index)) free).1 in
    (refl, loaded_by (is_some it.built) (ap (λ (i : IndexState). cause_if (not i.loaded) (NotLoaded index)) (sym seen) ∙ rest)) where
      loaded_by : (l : Bool) → cause_if (not l) (NotLoaded index) ≡ None → l ≡ true
      loaded_by true none = refl
      loaded_by false none = absurd (cc)
fine_by b w workers index it at (Some fault) free =
    let bad : Some fault ≡ None = (both_none (index_refusal b index) (Some fault) free).1 in
    absurd (cc)

pub may_apply :
    (index : ℕ) (live : LiveValue) (building : BuildingValue) (most : ℕ) → BuildFollows live.state.heap.schema live.state.heap.log live.state.build
    → StandsBeside live building → cause_of live building (Apply index most) ≡ None → MayApply live building index
may_apply index live building most follows works free = by_build live.state.build building.work refl refl where
  work_of : Option WorkValue → WorkState
  work_of x = work_state building.workers x

  by_build : (o : Option BuildState) (x : Option WorkValue) → live.state.build ≡ o → building.work ≡ x → MayApply live building index
  by_build None x is held =
      absurd (let bad : Some NoBuild ≡ None = ap (λ (p : Option BuildState). build_cause p (λ a. apply_refusal a (work_of building.work) index)) (sym is) ∙ free in cc)
  by_build (Some b) None is held =
      absurd (subst (λ (p : Option BuildState). WorkMatches live.state.heap.schema live.state.heap.log p None) is
      (subst (WorkMatches live.state.heap.schema live.state.heap.log live.state.build) held works.work))
  by_build (Some b) (Some w) is held =
      let run = running live building b w is held follows works in
      let free_now : apply_refusal b (state_unless w.spoiled building.workers w) index ≡ None =
      ap (λ (x : Option WorkValue). apply_refusal b (work_of x) index) (sym held)
      ∙ ap (λ (p : Option BuildState). build_cause p (λ a. apply_refusal a (work_of building.work) index)) (sym is) ∙ free in
      let below_specs = index_below b index (both_none (index_refusal b index) _ free_now).0 in
      let many = run.on.many in
      let it = there_is w.indexes index (omega (arith, below_specs, many)) in
      let known = fine_by b w building.workers index it.0 it.1 w.spoiled free_now in
      record { build = b; work = w; runs = run; fine = known.0; it = it.0; there = it.1; loaded = known.1 }

-- told of both before the look
pub applies_next :
    (index : ℕ) (live new_live : LiveValue) (building new : BuildingValue) (waiting most : ℕ)
    → BuildFollows new_live.state.heap.schema new_live.state.heap.log new_live.state.build → StandsBeside live building → cause_of live building (Apply index most) ≡ None
    → SideIsLooked index live building new_live new → SeesSideAt index waiting new_live new
    → IfSome new_live.state.build (λ b. IfSome (slice_get b.specs index) (λ spec. IfSome (slice_get new_live.sides index)
    (AreFedEntries new_live.state.heap.log b index spec))) → AppliesNext index waiting new_live new
applies_next index live new_live building new waiting most follows works free looked sees fed =
    let free_now : cause_of new_live new (Apply index most) ≡ None =
    ap (λ (s : CoreState). refusal s (Apply index most)) (state_side_looked index live new_live building new looked) ∙ free in
    let may = may_apply index new_live new most follows (works_side_looked index live new_live building new looked works) free_now in
    let less = below may.work.indexes index may.it may.there in
    let many = may.runs.on.many in
    let spec = there_is may.build.specs index (omega (arith, less, many)) in
    let built = stays_built may.it may.loaded in
    record {
      build = may.build;
      work = may.work;
      run = may.runs;
      fine = may.fine;
      spec = spec.0;
      spec_at = spec.1;
      it = may.it;
      it_at = may.there;
      built = built.0;
      loaded = built.1;
      put = sees.put;
      put_at = sees.put_there;
      end = sees.end;
      end_at = sees.end_there;
      fed = subst (λ (o : Option (PutEnd Entry)). IfSome o (AreFedEntries new_live.state.heap.log may.build index spec.0)) sees.put_there
          (subst (λ (o : Option KeySpecValue). IfSome o (λ s. IfSome (slice_get new_live.sides index) (AreFedEntries new_live.state.heap.log may.build index s))) spec.1
          (subst (λ (o : Option BuildState). IfSome o (λ b. IfSome (slice_get b.specs index) (λ s. IfSome (slice_get new_live.sides index)
          (AreFedEntries new_live.state.heap.log b index s)))) may.runs.build_is fed));
      sees = sees.sees;
    }

module _
    (index : ℕ) (live : LiveValue) (building : BuildingValue) (waiting most count : ℕ) (next : AppliesNext index waiting live building)
    (least : count ≡ min most waiting) where
  few : count ≤ waiting
  few = subst (λ n. n ≤ waiting) (sym least) (min-le_right most waiting)

  abbrev before : CoreState
  before = core_state live building

  least_is : count ≡ next_applied next.build before.work index most
  least_is = least ∙ ap (min most) (ring_is index waiting live building next)

  pub can_apply_next : CanApply index count building
  can_apply_next = can_apply index waiting live building next count few

  done_some : (new : BuildingValue) (n : ℕ) → n ≤ count → HasApplied index building n new → core_state live new ≡ record before { work = after_apply before.work index n }
  done_some new n less done = state_applied index waiting live building next new n (omega (arith, less, few)) done

  works_some : (new : BuildingValue) (n : ℕ) → n ≤ count → HasApplied index building n new → StandsBeside live new
  works_some new n less done = works_applied index waiting live building next new n (omega (arith, less, few)) done

  pub applies_all :
      (old : CoreState) → before ≡ old → (new : BuildingValue) (answer : Result ℕ Fault) → IfOk answer (λ n. (n ≡ count) × HasApplied index building count new)
      → IfOk answer (λ n. Applies index most old n (core_state live new))
  applies_all old same new (Err fault) done = tt
  applies_all old same new (Ok n) done =
      subst (λ (s : CoreState). Applies index most s n (core_state live new)) same
      (subst (λ (o : Option BuildState). OnBuild o (λ b. (n ≡ next_applied b before.work index most)
      × (core_state live new ≡ record before { work = after_apply before.work index n }))) (sym next.run.build_is)
      (done.0 ∙ least_is, done_some new count (omega arith) done.1 ∙ ap (λ k. record before { work = after_apply before.work index k }) (sym done.0)))

  pub applies_some :
      (old : CoreState) → before ≡ old → (new : BuildingValue) (answer : Result ℕ Fault)
      → OnErr answer (StopsApplying index count building new) → OnErr answer (AppliesSome index most old (core_state live new))
  applies_some old same new (Ok n) done = tt
  applies_some old same new (Err fault) done =
      subst (λ (s : CoreState). AppliesSome index most s (core_state live new)) same
      (subst (λ (o : Option BuildState). OnBuild o (λ b. (n : ℕ) × (n < next_applied b before.work index most)
      × (core_state live new ≡ record before { work = after_apply before.work index n })
      × MayTakeMemory b live.state.heap.log index ((index_at before.work.indexes index).applied + n))) (sym next.run.build_is) (
        done.entries,
        subst (λ k. done.entries < k) least_is done.fewer,
        done_some new done.entries (omega (arith, done.fewer)) done.applied,
        elim done.needed [
          | inl needed ↦ may_take index waiting live building next done.entries (omega (arith, done.fewer, few)) needed
          | inr none ↦ absurd (counts_more index waiting live building next done.entries (omega (arith, done.fewer, few)) none)
        ],
      ))

  pub works_after_apply :
      (new : BuildingValue) (answer : Result ℕ Fault) → IfOk answer (λ n. (n ≡ count) × HasApplied index building count new)
      → OnErr answer (StopsApplying index count building new) → StandsBeside live new
  works_after_apply new (Ok n) done some = works_some new count (omega arith) done.1
  works_after_apply new (Err fault) done some = works_some new some.entries (omega (arith, some.fewer)) some.applied

-- an index of the build isn't refused for its number
pub inside_of : (b : BuildState) (index : ℕ) → index < length b.specs → nat_le (length b.specs) index ≡ false
inside_of b index less = false_from_ne_true (nat_le (length b.specs) index) (λ more. let all = leb-true (length b.specs) index more in omega (arith, all, less))

-- an index of the running build, which isn't spoiled
module _
    (live : LiveValue) (building : BuildingValue) (b : BuildState) (w : WorkValue) (run : IsRunning live building b w) (fine : w.spoiled ≡ None) (index : ℕ)
    (less : index < length b.specs) where
  its_cause :
      (loaded : Bool) → ((it : IndexValue) → slice_get w.indexes index ≡ Some it → loaded ≡ is_some it.built)
      → build_cause live.state.build (λ a. apply_refusal a (work_state building.workers building.work) index) ≡ cause_if (not loaded) (NotLoaded index)
  its_cause loaded is =
      let many = run.on.many in
      let it = there_is w.indexes index (omega (arith, less, many)) in
      let seen : index_at (map index_state w.indexes) index ≡ index_state it.0 =
      get_or_from_slice_get (map index_state w.indexes) index (index_state it.0) _ (map_at index_state w.indexes index it.0 it.1) in
      let told : (index_at (map index_state w.indexes) index).loaded ≡ loaded = ap (λ (i : IndexState). i.loaded) seen ∙ sym (is it.0 it.1) in
      rw (run.build_is, state_is building w run.work_is fine, inside_of b index less, told) refl

  pub not_loaded :
      ((it : IndexValue) → slice_get w.indexes index ≡ Some it → false ≡ is_some it.built)
      → build_cause live.state.build (λ a. apply_refusal a (work_state building.workers building.work) index) ≡ Some (NotLoaded index)
  not_loaded none = its_cause false none

  pub applicable :
      ((it : IndexValue) → slice_get w.indexes index ≡ Some it → true ≡ is_some it.built)
      → build_cause live.state.build (λ a. apply_refusal a (work_state building.workers building.work) index) ≡ None
  applicable some = its_cause true some

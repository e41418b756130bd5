-- How a build goes on that follows those who write.
use Rattle.std.proofs.Common.{◌≡◌, ℕ, ◌<◌, ◌≤◌, true, List, length, map, Option, Some, None, refl, sym, ap, ◌∙◌, subst, arith}
use Rattle.std.specs.List.{slice_get}
use Rattle.std.specs.Prelude.{IfSome}
use Rattle.std.proofs.lemmas.Option.{get_or_from_slice_get}
use Rattle.keybytes.specs.Keys.{KeySpecValue}
use Rattle.build_events.specs.BuildSteps.{OnBuild}
use Rattle.build_events.specs.CoreState.{BuildState, CoreState, IndexState, WorkState}
use Rattle.build_events.specs.Workers.{in_ring, index_at}
use Rattle.building.proofs.OneWorker.{the_work}
use Rattle.building.specs.BuildingValue.{BuildingValue, IndexValue, WorkValue, index_state}
use Rattle.live_lemmas.specs.Builds.{LiveValue, StandsBeside, core_state}
use Rattle.live_lemmas.specs.Settling.{IsSettled, OnlyFeeds}
use Rattle.live_lemmas.specs.Switching.{IsPartOf}
use Rattle.page_workers.proofs.Places.{below, map_at, there_is}
use Rattle.crew.specs.Credits.{indexes_of_build}
use Rattle.crew.specs.Places.{GoesOnWith, stakes_beside}
use Rattle.crew.proofs.Steps.{indexes_are, spoiled_is, work_there}

-- whether the pairs of an index are in order, as callers see it
loaded_at : (building : BuildingValue) (w : WorkValue) (live : LiveValue) (k : ℕ) (index : IndexValue) → building.work ≡ Some w → slice_get w.indexes k ≡ Some index
    → index_at (core_state live building).work.indexes k ≡ index_state index
loaded_at building w live k index runs at =
    ap (λ (is : List IndexState). index_at is k) (indexes_are building w runs)
    ∙ get_or_from_slice_get (map index_state w.indexes) k (index_state index) _ (map_at index_state w.indexes k index at)

-- what stands beside the table and isn't spoiled goes on
beside_goes_on :
    (live : LiveValue) (building : BuildingValue) (b : BuildState) → live.state.build ≡ Some b → StandsBeside live building
    → (core_state live building).work.spoiled ≡ None → (count : ℕ) (specs : List KeySpecValue) → b.specs ≡ specs → length specs ≤ 8
    → ((k : ℕ) → k < count → k < length specs → (index_at (core_state live building).work.indexes k).loaded ≡ true) → GoesOnWith count specs building
beside_goes_on live building b runs works fine count specs specs_are few loaded =
    let left = work_there live.state.heap.schema live.state.heap.log live.state.build b building.work runs works.work in
    let w : WorkValue = left.0 in
    let many : length w.indexes ≡ length specs = left.2.many ∙ ap length specs_are in
    record {
      work = w;
      runs = left.1;
      specs_are = sym left.2.specs ∙ specs_are;
      few = few;
      many = many;
      fine = sym (spoiled_is building w left.1) ∙ fine;
      loaded = λ k index less at.
          let here = below w.indexes k index at in
          sym (ap (λ (i : IndexState). i.loaded) (loaded_at building w live k index left.1 at)) ∙ loaded k less (omega (arith, here, many));
    }

-- work that goes on has the pairs of its first indexes in order
were_loaded :
    (live : LiveValue) (building : BuildingValue) (count : ℕ) (specs : List KeySpecValue) (on : GoesOnWith count specs building) (k : ℕ) → k < count → k < length specs
    → (index_at (core_state live building).work.indexes k).loaded ≡ true
were_loaded live building count specs on k less there =
    let it = there_is on.work.indexes k (omega (arith, there, on.many)) in
    ap (λ (i : IndexState). i.loaded) (loaded_at building on.work live k it.0 on.runs it.1) ∙ on.loaded k it.0 less it.1

module _ (live new_live : LiveValue) (building new : BuildingValue) where
  abbrev s : CoreState
  s = core_state live building

  abbrev t : CoreState
  t = core_state new_live new

  -- nothing was done but a look
  pub looked_goes_on :
      IsPartOf live building → StandsBeside new_live new → t ≡ s → (count : ℕ) (specs : List KeySpecValue) → GoesOnWith count specs building → GoesOnWith count specs new
  looked_goes_on part works same count specs on =
      let b : BuildState = part.of.build in
      let its : part.of.work ≡ on.work = the_work building.work part.of.work on.work part.of.there on.runs in
      let specs_are : b.specs ≡ specs = part.of.specs ∙ ap (λ (x : WorkValue). x.specs) its ∙ on.specs_are in
      beside_goes_on new_live new b (ap (λ (x : CoreState). x.live.build) same ∙ part.of.runs) works
      (ap (λ (x : CoreState). x.work.spoiled) same ∙ spoiled_is building on.work on.runs ∙ on.fine) count specs specs_are on.few
      (λ k less there. ap (λ (x : CoreState). (index_at x.work.indexes k).loaded) same ∙ were_loaded live building count specs on k less there)

  pub fed_goes_on :
      StandsBeside live building → StandsBeside new_live new → OnlyFeeds s t
      → (count : ℕ) (specs : List KeySpecValue) → GoesOnWith count specs building → GoesOnWith count specs new
  fed_goes_on works new_works feeds count specs on =
      let b : BuildState = feeds.build in
      let was = work_there live.state.heap.schema live.state.heap.log live.state.build b building.work feeds.runs works.work in
      let its : was.0 ≡ on.work = the_work building.work was.0 on.work was.1 on.runs in
      let specs_are : b.specs ≡ specs = was.2.specs ∙ ap (λ (x : WorkValue). x.specs) its ∙ on.specs_are in
      let same : t.work ≡ s.work = ap (λ (x : CoreState). x.work) feeds.new_is in
      beside_goes_on new_live new (record b { fed = feeds.fed }) (ap (λ (x : CoreState). x.live.build) feeds.new_is) new_works
      (ap (λ (x : WorkState). x.spoiled) same ∙ spoiled_is building on.work on.runs ∙ on.fine) count specs specs_are on.few
      (λ k less there. ap (λ (x : WorkState). (index_at x.indexes k).loaded) same ∙ were_loaded live building count specs on k less there)

  pub fed_stakes : OnlyFeeds s t → stakes_beside new ≡ stakes_beside building
  fed_stakes feeds = ap (λ (x : CoreState). x.spools.stakes) feeds.new_is

  pub fed_log : OnlyFeeds s t → new_live.state.heap.log ≡ live.state.heap.log
  fed_log feeds = ap (λ (x : CoreState). x.live.heap.log) feeds.new_is

  pub fed_ready : OnlyFeeds s t → new_live.state.ready ≡ live.state.ready
  fed_ready feeds = ap (λ (x : CoreState). x.live.ready) feeds.new_is

  pub fed_indexes : OnlyFeeds s t → indexes_of_build new_live.state.build ≡ indexes_of_build live.state.build
  fed_indexes feeds = ap (λ (x : CoreState). indexes_of_build x.live.build) feeds.new_is ∙ sym (ap indexes_of_build feeds.runs)

-- a build that goes on has the indexes that stand beside its table
pub indexes_beside :
    (live : LiveValue) (building : BuildingValue) → StandsBeside live building → IsSettled (core_state live building) → (count : ℕ) (specs : List KeySpecValue)
    → GoesOnWith count specs building → indexes_of_build live.state.build ≡ length specs
indexes_beside live building works settled count specs on = by_build live.state.build refl settled where
  by_build :
      (o : Option BuildState) → live.state.build ≡ o
      → OnBuild o (λ b. (index : ℕ) → index < length b.specs → in_ring b (core_state live building).work index ≡ 0) → indexes_of_build o ≡ length specs
  by_build None is runs = absurd runs
  by_build (Some b) is runs =
      let was = work_there live.state.heap.schema live.state.heap.log live.state.build b building.work is works.work in
      let its : was.0 ≡ on.work = the_work building.work was.0 on.work was.1 on.runs in
      ap length (was.2.specs ∙ ap (λ (x : WorkValue). x.specs) its ∙ on.specs_are)

-- there are as many batches as the build has indexes
pub one_each : (o : Option BuildState) (batches : ℕ) (P : BuildState → Type 0) → OnBuild o P → batches ≡ indexes_of_build o → OnBuild o (λ b. batches ≡ length b.specs)
one_each None batches P runs many = absurd runs
one_each (Some b) batches P runs many = many

-- what is so of the work's own indexes is so of the build's
pub of_going :
    (P : List KeySpecValue → Type 0) (count : ℕ) (specs : List KeySpecValue) (building : BuildingValue) → GoesOnWith count specs building
    → IfSome building.work (λ w. w.spoiled ≡ None → P w.specs) → P specs
of_going P count specs building on of_work =
    subst P on.specs_are (subst (λ (o : Option WorkValue). IfSome o (λ w. w.spoiled ≡ None → P w.specs)) on.runs of_work on.fine)

pub report_of_going :
    (P : List KeySpecValue → Type 0) (count : ℕ) (specs : List KeySpecValue) (building : BuildingValue) → GoesOnWith count specs building
    → IfSome building.work (λ w. P w.specs) → P specs
report_of_going P count specs building on of_work = subst P on.specs_are (subst (λ (o : Option WorkValue). IfSome o (λ w. P w.specs)) on.runs of_work)

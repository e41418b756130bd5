-- All indexes of a build that catch up: how far they are, as callers see it.
use Rattle.std.proofs.Common.{◌≡◌, ℕ, suc, ◌-◌, ◌<◌, ◌≤◌, List, [], ◌∷◌, length, map, set, get_or, Option, Some, None, refl, sym, ap, ap₂, ◌∙◌, subst, arith}
use Rattle.std.proofs.Common.{inl, inr}
use Rattle.std.specs.Prelude.{◌==◌, not, IfSome}
use Rattle.std.specs.List.{slice_get}
use Rattle.std.proofs.lemmas.Bool.{cases_Bool, eqb-true, eqb-false}
use Rattle.std.proofs.lemmas.List.{length-map, length-set, get_or-set_same, get_or-set_other}
use Rattle.std.proofs.lemmas.Option.{same_Some}
use Rattle.keybytes.specs.Faults.{first_cause}
use Rattle.keybytes.specs.Keys.{KeySpecValue}
use Rattle.keybytes.specs.declared.fault.Fault.TheVariants.{NotLoaded}
use Rattle.heap_log.specs.declared.record.LogRec.{LogRec}
use Rattle.live_lemmas.specs.Builds.{LiveValue, IsRunning, StandsBeside, core_state}
use Rattle.building.specs.BuildingValue.{BuildingValue, WorkValue, work_state, index_state}
use Rattle.building.specs.WorkOn.{WorkMatches}
use Rattle.table_scan.specs.TableBuilds.{BuildFollows}
use Rattle.live_lemmas.specs.CatchingUp.{MayCatchUp, IndexIsFurther, left_at, left_of, unapplied_at, further_by}
use Rattle.build_events.specs.CoreState.{BuildState, IndexState, CoreState}
use Rattle.table_scan.specs.SideFiles.{NoneAhead}
use Rattle.live_lemmas.proofs.Refusals.{running}
use Rattle.build_events.specs.BuildSteps.{OnBuild, CatchesUp, AreFurther, IsFurther, build_cause, cause_if, apply_refusal, index_refusal}
use Rattle.build_events.specs.Steps.{refusal}
use Rattle.build_events.specs.Workers.{all_entries, all_unapplied, fed_to, index_at, unapplied}
use Rattle.build_events.specs.declared.event.Event.TheVariants.{Apply}
use Rattle.live_lemmas.proofs.FedBeside.{indexes_seen}
use Rattle.page_workers.proofs.Places.{below, here_set, map_at, there_is}
use Rattle.live_lemmas.proofs.IndexFurther.{at_is}

-- all indexes of a build, as far as they are
pub record AllAreFurther (s new : CoreState) : Type 0 where
  pub build : BuildState
  pub runs : s.live.build ≡ Some build
  pub counted : length build.fed ≡ length build.specs
  pub many : length s.work.indexes ≡ length build.specs
  pub fed : List ℕ
  pub indexes : List IndexState
  pub are : AreFurther build s.live.heap.log s.work.indexes fed indexes
  pub new_is : new ≡ record s { live = record s.live { build = Some (record build { fed = fed }) }; work = record s.work { indexes = indexes } }

-- so they catch up
pub catches_up : (s new : CoreState) → AllAreFurther s new → CatchesUp s new
catches_up s new all =
    subst (λ (o : Option BuildState). OnBuild o (λ b. (fed : List ℕ) × (indexes : List IndexState) × AreFurther b s.live.heap.log s.work.indexes fed indexes
    × (new ≡ record s { live = record s.live { build = Some (record b { fed = fed }) }; work = record s.work { indexes = indexes } }))) (sym all.runs)
    (all.fed, all.indexes, all.are, all.new_is)

-- where as many entries were there and applied, as many are left
same_left :
    (b x : BuildState) (s t : CoreState) (k : ℕ) (o : Option KeySpecValue)
    → ((spec : KeySpecValue) → all_entries b s.live.heap.log spec ≡ all_entries x t.live.heap.log spec)
    → index_at s.work.indexes k ≡ index_at t.work.indexes k → unapplied_at b s k o ≡ unapplied_at x t k o
same_left b x s t k None entries same = refl
same_left b x s t k (Some spec) entries same = ap₂ (λ (n : ℕ) (i : IndexState). n - i.applied) (entries spec) same

-- one after the others
module _ (index : ℕ) (s mid new : CoreState) (all : AllAreFurther s mid) (it : IndexIsFurther index mid new) where
  build_is : it.build ≡ record all.build { fed = all.fed }
  build_is = same_Some it.build (record all.build { fed = all.fed }) (sym it.runs ∙ ap (λ (m : CoreState). m.live.build) all.new_is)

  indexes_are : mid.work.indexes ≡ all.indexes
  indexes_are = ap (λ (m : CoreState). m.work.indexes) all.new_is

  old_is : index_at all.indexes index ≡ it.old
  old_is = at_is all.indexes index it.old (ap (λ (is : List IndexState). slice_get is index) (sym indexes_are) ∙ it.there)

  fed_there : index < length all.fed
  fed_there = subst (λ (b : BuildState). index < length b.fed) build_is it.counted

  index_there : index < length all.indexes
  index_there = subst (λ (is : List IndexState). index < length is) indexes_are (below mid.work.indexes index it.old it.there)

  entries_are : (spec : KeySpecValue) → all_entries it.build mid.live.heap.log spec ≡ all_entries all.build s.live.heap.log spec
  entries_are spec =
      ap (λ (b : BuildState). all_entries b mid.live.heap.log spec) build_is ∙ ap (λ (m : CoreState). all_entries all.build m.live.heap.log spec) all.new_is

  further_here : (spec : KeySpecValue) → slice_get all.build.specs index ≡ Some spec
      → IsFurther (all_entries all.build s.live.heap.log spec) (fed_to all.build index) (index_at s.work.indexes index) it.fed (record it.old { applied = it.applied })
  further_here spec at =
      let was = all.are.each index spec at in
      let spec_is : spec ≡ it.spec = same_Some spec it.spec (sym at ∙ ap (λ (b : BuildState). slice_get b.specs index) (sym build_is) ∙ it.at) in
      let entries : all_entries it.build mid.live.heap.log it.spec ≡ all_entries all.build s.live.heap.log spec =
      entries_are it.spec ∙ ap (all_entries all.build s.live.heap.log) (sym spec_is) in
      let fed_was : fed_to it.build index ≡ get_or all.fed index 0 = ap (λ (b : BuildState). fed_to b index) build_is in
      let applied_was = ap (λ (i : IndexState). i.applied) old_is in
      record {
        loaded = ap (λ (i : IndexState). i.loaded) (sym old_is) ∙ was.loaded;
        fed_more = omega (arith, was.fed_more, it.further.fed_more, fed_was);
        applied_more = omega (arith, was.applied_more, it.further.applied_more, applied_was);
        applied_were_fed = it.further.applied_were_fed;
        fed_were_there = omega (arith, it.further.fed_were_there, entries);
      }

  pub all_further : AllAreFurther s new
  all_further = record {
    build = all.build;
    runs = all.runs;
    counted = all.counted;
    many = all.many;
    fed = set all.fed index it.fed;
    indexes = set all.indexes index (record it.old { applied = it.applied });
    are = record {
      fed_many = length-set all.fed index it.fed ∙ all.are.fed_many;
      indexes_many = length-set all.indexes index (record it.old { applied = it.applied }) ∙ all.are.indexes_many;
      each = λ k spec at.
          elim (cases_Bool (k == index)) [
            | inl here ↦
                let same : k ≡ index = eqb-true k index here in
                let now : get_or (set all.fed index it.fed) index 0 ≡ it.fed = get_or-set_same all.fed index it.fed 0 fed_there in
                let index_is : index_at (set all.indexes index (record it.old { applied = it.applied })) index ≡ record it.old { applied = it.applied } =
                at_is _ index _ (here_set all.indexes index (record it.old { applied = it.applied }) index_there) in
                rw (same, now, index_is) (further_here spec (ap (slice_get all.build.specs) (sym same) ∙ at))
            | inr other ↦
                let differ : k ≡ index → ⊥ = eqb-false k index other in
                let now : get_or (set all.fed index it.fed) k 0 ≡ get_or all.fed k 0 = get_or-set_other all.fed index k it.fed 0 differ in
                let index_is : index_at (set all.indexes index (record it.old { applied = it.applied })) k ≡ index_at all.indexes k =
                get_or-set_other all.indexes index k (record it.old { applied = it.applied }) _ differ in
                rw (now, index_is) (all.are.each k spec at)
          ];
    };
    new_is =
        it.new_is
        ∙ ap₂ (λ (m : CoreState) (b : BuildState). further_by m b index it.old it.fed it.applied) all.new_is build_is;
  }

  -- of the others as many are left
  pub others_left : (k : ℕ) → (k ≡ index → ⊥) → left_at k new ≡ left_at k mid
  others_left k other =
      let after : CoreState = further_by mid it.build index it.old it.fed it.applied in
      ap (left_at k) it.new_is
      ∙ same_left (record it.build { fed = set it.build.fed index it.fed }) it.build after mid k (slice_get it.build.specs k) (λ spec. refl)
      (get_or-set_other mid.work.indexes index k (record it.old { applied = it.applied }) _ other)
      ∙ sym (ap (λ (o : Option BuildState). left_of o mid k) it.runs)

-- and nothing keeps the others from it
pub may_still : (s new : CoreState) → AllAreFurther s new → MayCatchUp s → MayCatchUp new
may_still s new all may =
    subst MayCatchUp (sym all.new_is) (λ index less.
    let spec = there_is all.build.specs index less in
    let same = (all.are.each index spec.0 spec.1).loaded in
    let was = subst (λ (o : Option BuildState). OnBuild o (λ b. (index : ℕ) → index < length b.specs → apply_refusal b s.work index ≡ None)) all.runs may index less in
    ap (λ l. first_cause (index_refusal all.build index) (first_cause s.work.spoiled (cause_if (not l) (NotLoaded index)))) same ∙ was)

-- none is left of all once none is of each
sum_none :
    (b : BuildState) (log : List LogRec) (specs : List KeySpecValue) (indexes : List IndexState)
    → ((k : ℕ) (spec : KeySpecValue) → slice_get specs k ≡ Some spec → unapplied b log spec (index_at indexes k) ≡ 0) → all_unapplied b log specs indexes ≡ 0
sum_none b log [] indexes none = refl
sum_none b log (spec ∷ specs) [] none = refl
sum_none b log (spec ∷ specs) (index ∷ indexes) none =
    let here = none 0 spec refl in
    let rest = sum_none b log specs indexes (λ k s at. none (suc k) s at) in
    omega (arith, here, rest)

pub none_left :
    (s new : CoreState) (all : AllAreFurther s new) → ((k : ℕ) → k < length all.build.specs → left_at k new ≡ 0)
    → OnBuild new.live.build (λ b. all_unapplied b new.live.heap.log b.specs new.work.indexes ≡ 0)
none_left s new all none =
    let b : BuildState = record all.build { fed = all.fed } in
    let runs : new.live.build ≡ Some b = ap (λ (n : CoreState). n.live.build) all.new_is in
    subst (λ (o : Option BuildState). OnBuild o (λ x. all_unapplied x new.live.heap.log x.specs new.work.indexes ≡ 0)) (sym runs)
    (sum_none b new.live.heap.log all.build.specs new.work.indexes (λ k spec at.
    sym (ap (λ (o : Option BuildState). left_of o new k) runs ∙ ap (unapplied_at b new k) at) ∙ none k (below all.build.specs k spec at)))

-- none of each is left once none is of those before the last
pub none_of_each :
    (s new : CoreState) (all : AllAreFurther s new) (b : BuildState) → s.live.build ≡ Some b → (count : ℕ) → length b.specs ≤ count
    → ((k : ℕ) → k < count → left_at k new ≡ 0) → (k : ℕ) → k < length all.build.specs → left_at k new ≡ 0
none_of_each s new all b runs count far none k less =
    let same = ap (λ (x : BuildState). length x.specs) (same_Some all.build b (sym all.runs ∙ runs)) in none k (omega (arith, less, far, same))

-- all of them, as far as they are
pub all_begin :
    (live : LiveValue) (building : BuildingValue) (b : BuildState) (w : WorkValue) → IsRunning live building b w → NoneAhead live.state.heap.log b
    → length live.sides ≡ 8 → length building.sides ≡ 8 → AllAreFurther (core_state live building) (core_state live building)
all_begin live building b w run ahead puts ends =
    let s : CoreState = core_state live building in
    let indexes : s.work.indexes ≡ map index_state w.indexes =
    ap (λ (o : Option WorkValue). (work_state building.workers o).indexes) run.work_is ∙ indexes_seen w.spoiled building.workers w in
    let many = length-map w.indexes index_state in
    let same_many = run.on.many in
    let few = run.follows.few_indexes in
    record {
      build = b;
      runs = run.build_is;
      counted = run.follows.fed_many;
      many = ap length indexes ∙ many ∙ same_many;
      fed = b.fed;
      indexes = s.work.indexes;
      are = record {
        fed_many = refl;
        indexes_many = refl;
        each = λ k spec at.
            let less = below b.specs k spec at in
            let it = there_is w.indexes k (omega (arith, less, same_many)) in
            let put = there_is live.sides k (omega (arith, less, few, puts)) in
            let end = there_is building.sides k (omega (arith, less, few, ends)) in
            let seen : index_at s.work.indexes k ≡ index_state it.0 =
            ap (λ (is : List IndexState). index_at is k) indexes ∙ at_is (map index_state w.indexes) k (index_state it.0) (map_at index_state w.indexes k it.0 it.1) in
            let applied = ap (λ (i : IndexState). i.applied) seen in
            record {
              loaded = refl;
              fed_more = omega arith;
              applied_more = omega arith;
              applied_were_fed = omega (arith, applied, (run.at_work.fed k it.0 put.0 end.0 it.1 put.1 end.1).counted);
              fed_were_there = ahead k spec at;
            };
      };
      new_is = ap (λ (o : Option BuildState). record s { live = record s.live { build = o } }) run.build_is;
    }

-- told of the table and of what stands beside it
pub begins :
    (live : LiveValue) (building : BuildingValue) (b : BuildState) → live.state.build ≡ Some b → StandsBeside live building
    → BuildFollows live.state.heap.schema live.state.heap.log live.state.build → IfSome live.state.build (NoneAhead live.state.heap.log)
    → length live.sides ≡ 8 → length building.sides ≡ 8 → AllAreFurther (core_state live building) (core_state live building)
begins live building b is works follows ahead puts ends = by_work building.work refl where
  by_work : (x : Option WorkValue) → building.work ≡ x → AllAreFurther (core_state live building) (core_state live building)
  by_work None held =
      absurd (subst (λ (p : Option BuildState). WorkMatches live.state.heap.schema live.state.heap.log p None) is
      (subst (WorkMatches live.state.heap.schema live.state.heap.log live.state.build) held works.work))
  by_work (Some w) held =
      all_begin live building b w (running live building b w is held follows works)
      (subst (λ (o : Option BuildState). IfSome o (NoneAhead live.state.heap.log)) is ahead) puts ends

-- what may be applied at the start may be applied on the way
pub may_apply_at :
    (s new : CoreState) → AllAreFurther s new → (b : BuildState) → s.live.build ≡ Some b → MayCatchUp s → (index : ℕ) → index < length b.specs
    → refusal new (Apply index 256) ≡ None
may_apply_at s new all b runs may index less =
    let same : all.build ≡ b = same_Some all.build b (sym all.runs ∙ runs) in
    let now : BuildState = record all.build { fed = all.fed } in
    let new_runs : new.live.build ≡ Some now = ap (λ (n : CoreState). n.live.build) all.new_is in
    let still = may_still s new all may in
    let free : apply_refusal now new.work index ≡ None =
    subst (λ (o : Option BuildState). OnBuild o (λ x. (i : ℕ) → i < length x.specs → apply_refusal x new.work i ≡ None)) new_runs still index
    (subst (λ (x : BuildState). index < length x.specs) (sym same) less) in
    ap (λ (o : Option BuildState). build_cause o (λ x. apply_refusal x new.work index)) new_runs ∙ free

-- An index that catches up: how far it is, as callers see it.
use Rattle.std.proofs.Common.{◌≡◌, ℕ, ◌+◌, ◌-◌, ◌<◌, ◌≤◌, List, length, map, set, set-set, min, Option, Some, refl, sym, ap, ap₂, ◌∙◌, subst, arith}
use Rattle.std.specs.Prelude.{not, IsSome, IfSome}
use Rattle.std.specs.List.{slice_get}
use Rattle.std.proofs.Math.Nat.{min-le_left, min-le_right, le-min}
use Rattle.std.proofs.lemmas.List.{get_or-set_same}
use Rattle.std.proofs.lemmas.Option.{get_or_from_slice_get, slice_get-get_or}
use Rattle.keybytes.specs.Faults.{first_cause}
use Rattle.keybytes.specs.Keys.{KeySpecValue}
use Rattle.keybytes.specs.declared.fault.Fault.TheVariants.{NotLoaded}
use Rattle.live_lemmas.specs.Builds.{LiveValue, core_state}
use Rattle.building.specs.BuildingValue.{BuildingValue, WorkValue, work_state, index_state}
use Rattle.live_lemmas.specs.CatchingUp.{IndexIsFurther, left_at, unapplied_at, further_by}
use Rattle.live_lemmas.specs.Settling.{ring_at}
use Rattle.build_events.specs.CoreState.{BuildState, IndexState, CoreState}
use Rattle.build_events.specs.BuildSteps.{OnBuild, Feeds, Applies, AppliesSome, MayTakeMemory, build_cause, cause_if, apply_refusal, index_refusal}
use Rattle.build_events.specs.Steps.{refusal}
use Rattle.build_events.specs.Workers.{all_entries, fed_to, in_ring, index_at, unfed}
use Rattle.build_events.specs.declared.event.Event.TheVariants.{Apply}
use Rattle.live_lemmas.proofs.FedBeside.{indexes_seen}
use Rattle.live_lemmas.proofs.IndexApplied.{AppliesNext}
use Rattle.page_workers.proofs.Places.{below, here_set, map_at, set_same}

-- what stands in a place of a list of indexes
pub at_is : (indexes : List IndexState) (index : ℕ) (it : IndexState) → slice_get indexes index ≡ Some it → index_at indexes index ≡ it
at_is indexes index it there = get_or_from_slice_get indexes index it _ there

module _ (index : ℕ) (s mid : CoreState) (it : IndexIsFurther index s mid) where
  abbrev its_build : BuildState
  its_build = record it.build { fed = set it.build.fed index it.fed }

  abbrev its_index : IndexState
  its_index = record it.old { applied = it.applied }

  abbrev from : CoreState
  from = further_by s it.build index it.old it.fed it.applied

  fed_now : fed_to its_build index ≡ it.fed
  fed_now = get_or-set_same it.build.fed index it.fed 0 it.counted

  index_now : index_at from.work.indexes index ≡ its_index
  index_now = at_is from.work.indexes index its_index (here_set s.work.indexes index its_index (below s.work.indexes index it.old it.there))

  entries_left : unfed its_build s.live.heap.log index (slice_get it.build.specs index) ≡ all_entries it.build s.live.heap.log it.spec - it.fed
  entries_left =
      ap (unfed its_build s.live.heap.log index) it.at ∙ ap (λ n. all_entries it.build s.live.heap.log it.spec - n) fed_now

  waiting_now : in_ring its_build from.work index ≡ it.fed - it.applied
  waiting_now = ap₂ (λ (n k : ℕ). n - k) fed_now (ap (λ (i : IndexState). i.applied) index_now)

  -- how many of its entries are left
  pub left_is : left_at index mid ≡ all_entries it.build s.live.heap.log it.spec - it.applied
  left_is =
      ap (left_at index) it.new_is
      ∙ ap (unapplied_at its_build from index) it.at
      ∙ ap (λ (i : IndexState). all_entries it.build s.live.heap.log it.spec - i.applied) index_now

  -- how many wait in its ring
  pub ring_is_now : ring_at index mid ≡ it.fed - it.applied
  ring_is_now = ap (ring_at index) it.new_is ∙ waiting_now

  -- so many more were fed, or applied
  further_still :
      (fed applied : ℕ) (new : CoreState) → it.fed ≤ fed → it.applied ≤ applied → applied ≤ fed → fed ≤ all_entries it.build s.live.heap.log it.spec
      → new ≡ further_by s it.build index it.old fed applied → IndexIsFurther index s new
  further_still fed applied new more_fed more_applied were_fed were_there is = record {
    build = it.build;
    runs = it.runs;
    spec = it.spec;
    at = it.at;
    counted = it.counted;
    old = it.old;
    there = it.there;
    fed = fed;
    applied = applied;
    further = record {
      loaded = refl;
      fed_more = omega (arith, it.further.fed_more, more_fed);
      applied_more = omega (arith, it.further.applied_more, more_applied);
      applied_were_fed = were_fed;
      fed_were_there = were_there;
    };
    new_is = is;
  }

  module _ (new : CoreState) (most count : ℕ) where
    fed_is : Feeds index most mid count new → (count ≡ min most (min (all_entries it.build s.live.heap.log it.spec - it.fed) (256 - (it.fed - it.applied))))
        × (new ≡ further_by s it.build index it.old (it.fed + count) it.applied)
    fed_is feeds =
        let done = subst (λ (m : CoreState). Feeds index most m count new) it.new_is feeds in (
          done.0 ∙ ap₂ (λ (n k : ℕ). min most (min n (256 - k))) entries_left waiting_now,
          done.1 ∙ ap (λ (f : List ℕ). record from { live = record from.live { build = Some (record it.build { fed = f }) } })
              (set-set it.build.fed index it.fed (fed_to its_build index + count) ∙ ap (λ n. set it.build.fed index (n + count)) fed_now),
        )

    pub fed_further : Feeds index most mid count new → IndexIsFurther index s new
    fed_further feeds =
        let done = fed_is feeds in
        let a = min-le_right most (min (all_entries it.build s.live.heap.log it.spec - it.fed) (256 - (it.fed - it.applied))) in
        let c = min-le_left (all_entries it.build s.live.heap.log it.spec - it.fed) (256 - (it.fed - it.applied)) in
        further_still (it.fed + count) it.applied new (omega arith) (omega arith) (omega (arith, it.further.applied_were_fed))
        (omega (arith, done.0, a, c, it.further.fed_were_there)) done.1

    applied_by : (n : ℕ) → new ≡ record mid {
      work = record mid.work {
        indexes =
            set mid.work.indexes index (record (index_at mid.work.indexes index) { applied = (index_at mid.work.indexes index).applied + n });
      };
    }
        → new ≡ further_by s it.build index it.old it.fed (it.applied + n)
    applied_by n is =
        is ∙ ap (λ (m : CoreState). record m {
          work = record m.work {
            indexes =
                set m.work.indexes index (record (index_at m.work.indexes index) { applied = (index_at m.work.indexes index).applied + n });
          };
        }) it.new_is
        ∙ ap (λ (i : IndexState). record from { work = record from.work { indexes = set from.work.indexes index (record i { applied = i.applied + n }) } }) index_now
        ∙ ap (λ (is : List IndexState). record from { work = record from.work { indexes = is } })
        (set-set s.work.indexes index its_index (record it.old { applied = it.applied + n }))

    applied_is : Applies index most mid count new → (count ≡ min most (it.fed - it.applied)) × (new ≡ further_by s it.build index it.old it.fed (it.applied + count))
    applied_is applies =
        let Done : CoreState → BuildState → Type 0 =
        λ m b. (count ≡ min most (in_ring b m.work index)) × (new ≡ record m {
          work = record m.work {
            indexes =
                set m.work.indexes index (record (index_at m.work.indexes index) { applied = (index_at m.work.indexes index).applied + count });
          };
        }) in
        let runs : mid.live.build ≡ Some its_build = ap (λ (m : CoreState). m.live.build) it.new_is in
        let done : Done mid its_build = subst (λ (o : Option BuildState). OnBuild o (Done mid)) runs applies in
        let waiting : in_ring its_build mid.work index ≡ it.fed - it.applied = ap (λ (m : CoreState). in_ring its_build m.work index) it.new_is ∙ waiting_now in
        (done.0 ∙ ap (min most) waiting, applied_by count done.1)

    pub applied_further : Applies index most mid count new → IndexIsFurther index s new
    applied_further applies =
        let done = applied_is applies in
        let a = min-le_right most (it.fed - it.applied) in
        further_still it.fed (it.applied + count) new (omega arith) (omega arith) (omega (arith, done.0, a, it.further.applied_were_fed))
        it.further.fed_were_there done.1

    pub some_further : AppliesSome index most mid new → IndexIsFurther index s new
    some_further some =
        let Done : CoreState → BuildState → Type 0 =
        λ m b. (n : ℕ) × (n < min most (in_ring b m.work index)) × (new ≡ record m {
          work = record m.work {
            indexes =
                set m.work.indexes index (record (index_at m.work.indexes index) { applied = (index_at m.work.indexes index).applied + n });
          };
        })
        × MayTakeMemory b m.live.heap.log index ((index_at m.work.indexes index).applied + n) in
        let runs : mid.live.build ≡ Some its_build = ap (λ (m : CoreState). m.live.build) it.new_is in
        let done : Done mid its_build = subst (λ (o : Option BuildState). OnBuild o (Done mid)) runs some in
        let waiting : in_ring its_build mid.work index ≡ it.fed - it.applied = ap (λ (m : CoreState). in_ring its_build m.work index) it.new_is ∙ waiting_now in
        let a = min-le_right most (in_ring its_build mid.work index) in
        further_still it.fed (it.applied + done.0) new (omega arith) (omega arith) (omega (arith, done.1, a, waiting, it.further.applied_were_fed))
        it.further.fed_were_there (applied_by done.0 done.2)

  -- its entries may be applied, if they might before
  pub applies_on : (most : ℕ) → refusal mid (Apply index most) ≡ refusal s (Apply index most)
  applies_on most =
      ap (λ (n : CoreState). refusal n (Apply index most)) it.new_is
      ∙ ap (λ (i : IndexState). first_cause (index_refusal it.build index) (first_cause s.work.spoiled (cause_if (not i.loaded) (NotLoaded index)))) index_now
      ∙ sym (ap (λ (o : Option BuildState). build_cause o (λ b. apply_refusal b s.work index)) it.runs
      ∙ ap (λ (i : IndexState). first_cause (index_refusal it.build index) (first_cause s.work.spoiled (cause_if (not i.loaded) (NotLoaded index))))
      (at_is s.work.indexes index it.old it.there))

-- each round leaves fewer
pub fewer_left :
    (index : ℕ) (s mid fed new : CoreState) (moved count : ℕ) → IndexIsFurther index s mid → 0 < left_at index mid → Feeds index 256 mid moved fed
    → Applies index 256 fed count new → left_at index new < left_at index mid
unfolding fed_further applied_further further_still
fewer_left index s mid fed new moved count it some feeds applies =
    let next = fed_further index s mid it fed 256 moved feeds in
    let last = applied_further index s fed next new 256 count applies in
    let moved_is = (fed_is index s mid it fed 256 moved feeds).0 in
    let count_is = (applied_is index s fed next new 256 count applies).0 in
    let before = left_is index s mid it in
    let after = left_is index s new last in
    by_ring moved_is count_is (subst (λ n. 0 < n) before some) before after where
      enough :
          moved ≡ min 256 (min (all_entries it.build s.live.heap.log it.spec - it.fed) (256 - (it.fed - it.applied)))
          → 0 < all_entries it.build s.live.heap.log it.spec - it.applied → 1 ≤ (it.fed + moved) - it.applied
      enough moved_is some = grind (arith, moved_is, some, it.further.applied_were_fed, it.further.fed_were_there)

      by_ring :
          moved ≡ min 256 (min (all_entries it.build s.live.heap.log it.spec - it.fed) (256 - (it.fed - it.applied)))
          → count ≡ min 256 ((it.fed + moved) - it.applied) → 0 < all_entries it.build s.live.heap.log it.spec - it.applied
          → left_at index mid ≡ all_entries it.build s.live.heap.log it.spec - it.applied
          → left_at index new ≡ all_entries it.build s.live.heap.log it.spec - (it.applied + count) → left_at index new < left_at index mid
      by_ring moved_is count_is some before after =
          let small : 1 ≤ 256 = omega arith in
          let least : 1 ≤ min 256 ((it.fed + moved) - it.applied) = le-min small (enough moved_is some) in
          omega (arith, least, count_is, some, before, after)

-- once as many are applied as wait, none waits
pub emptied :
    (index : ℕ) (s mid new : CoreState) (most count : ℕ) → IndexIsFurther index s mid → ring_at index mid ≤ most → Applies index most mid count new
    → ring_at index new ≡ 0
unfolding applied_further further_still
emptied index s mid new most count it enough applies =
    let next = applied_further index s mid it new most count applies in
    let count_is = (applied_is index s mid it new most count applies).0 in
    let before = ring_is_now index s mid it in
    let after = ring_is_now index s new next in
    by_count count_is enough before after where
      by_count :
          count ≡ min most (it.fed - it.applied) → ring_at index mid ≤ most → ring_at index mid ≡ it.fed - it.applied
          → ring_at index new ≡ it.fed - (it.applied + count) → ring_at index new ≡ 0
      by_count count_is enough before after =
          let least : it.fed - it.applied ≤ min most (it.fed - it.applied) = le-min (omega (arith, enough, before)) (omega arith) in
          omega (arith, least, count_is, after)

-- an index as far as it is
pub one_begins :
    (index : ℕ) (s : CoreState) (b : BuildState) (spec : KeySpecValue) (old : IndexState) → s.live.build ≡ Some b → slice_get b.specs index ≡ Some spec
    → index < length b.fed → slice_get s.work.indexes index ≡ Some old → old.applied ≤ fed_to b index → fed_to b index ≤ all_entries b s.live.heap.log spec
    → IndexIsFurther index s s
one_begins index s b spec old runs at counted there were_fed were_there = record {
  build = b;
  runs = runs;
  spec = spec;
  at = at;
  counted = counted;
  old = old;
  there = there;
  fed = fed_to b index;
  applied = old.applied;
  further = record { loaded = refl; fed_more = omega arith; applied_more = omega arith; applied_were_fed = were_fed; fed_were_there = were_there };
  new_is =
      ap (λ (o : Option BuildState). record s { live = record s.live { build = o } }) runs
      ∙ ap₂ (λ (fed : List ℕ) (indexes : List IndexState). record s {
        live = record s.live { build = Some (record b { fed = fed }) };
        work = record s.work { indexes = indexes };
      }) (sym (set_same b.fed index (fed_to b index) (slice_get-get_or b.fed index 0 counted))) (sym (set_same s.work.indexes index old there));
}

-- told of an index whose entries may be applied
pub further_from :
    (index waiting : ℕ) (live : LiveValue) (building : BuildingValue) → AppliesNext index waiting live building
    → IndexIsFurther index (core_state live building) (core_state live building)
further_from index waiting live building t =
    let s : CoreState = core_state live building in
    let indexes : s.work.indexes ≡ map index_state t.work.indexes =
    ap (λ (o : Option WorkValue). (work_state building.workers o).indexes) t.run.work_is ∙ indexes_seen t.work.spoiled building.workers t.work in
    let less = below t.build.specs index t.spec t.spec_at in
    let counted = t.run.follows.fed_many in
    let ring = t.run.at_work.fed index t.it t.put t.end t.it_at t.put_at t.end_at in
    one_begins index s t.build t.spec (index_state t.it) t.run.build_is t.spec_at (omega (arith, less, counted))
    (ap (λ (is : List IndexState). slice_get is index) indexes ∙ map_at index_state t.work.indexes index t.it t.it_at) ring.counted t.fed.there

-- the build runs still, and has the index
pub runs_on : (index : ℕ) (s new : CoreState) → IndexIsFurther index s new → IsSome new.live.build
runs_on index s new it = subst (λ (n : CoreState). IsSome n.live.build) (sym it.new_is) refl

pub index_on : (index : ℕ) (s new : CoreState) → IndexIsFurther index s new → IfSome new.live.build (λ b. index < length b.specs)
index_on index s new it =
    subst (λ (n : CoreState). IfSome n.live.build (λ b. index < length b.specs)) (sym it.new_is) (below it.build.specs index it.spec it.at)

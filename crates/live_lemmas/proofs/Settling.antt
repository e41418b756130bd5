-- How a build catches up beside its table: once all that was fed is applied, what is left is fed.
use Rattle.std.proofs.Common.{◌≡◌, ◌⊎◌, ℕ, zero, suc, ◌+◌, ◌-◌, ◌*◌, ◌<◌, ◌≤◌, List, length, set, get_or, drop, Option, Some, None, refl, sym, ap, ◌∙◌, subst, inl, inr, arith}
use Rattle.std.specs.Prelude.{◌==◌, IsSome, IfSome}
use Rattle.std.specs.List.{slice_get}
use Rattle.std.proofs.lemmas.Bool.{cases_Bool, eqb-true, eqb-false, cases_lt}
use Rattle.std.proofs.lemmas.List.{get_or-set_same, get_or-set_other, length-drop, length-map, length-set}
use Rattle.keybytes.specs.Keys.{KeySpecValue}
use Rattle.heap_log.specs.declared.record.LogRec.{LogRec}
use Rattle.side_file.specs.Changes.{TakesMost}
use Rattle.side_file.specs.Entries.{entry_of}
use Rattle.side_file.specs.declared.entry.Entry.{Entry}
use Rattle.visibility.specs.SideEntries.{SideEntry}
use Rattle.table_scan.specs.SideFiles.{AreEntriesLeft, side_refusal}
use Rattle.build_events.specs.BuildSteps.{OnBuild, after_feed}
use Rattle.build_events.specs.CoreState.{BuildState, CoreState, IndexState, scanning_of}
use Rattle.build_events.specs.SideEntries.{side_entries}
use Rattle.build_events.specs.Workers.{all_entries, all_unapplied, all_unfed, fed_to, in_ring, index_at, unapplied, unfed, unfed_before}
use Rattle.building.specs.BuildingValue.{BuildingValue}
use Rattle.live_lemmas.specs.Builds.{LiveValue, core_state}
use Rattle.live_lemmas.specs.CatchingUp.{left_at, left_of, unapplied_at}
use Rattle.live_lemmas.specs.Settling.{FeedsBatch, FeedsEach, IsSettled, OnlyFeeds, entries_waiting, left_of_index, ring_at, ring_of, waiting_in}
use Rattle.live_lemmas.proofs.ApplyCauses.{inside_of}
use Rattle.live_lemmas.proofs.LeftOver.{all_left, left_before}
use Rattle.page_workers.proofs.Places.{there_is}

-- What waits in the rings.

-- once nothing waits for each index, all are settled
pub all_settled :
    (s : CoreState) (b : BuildState) → s.live.build ≡ Some b → (count : ℕ) → length b.specs ≤ count
    → ((k : ℕ) → k < count → ring_at k s ≡ 0) → IsSettled s
all_settled s b runs count far none =
    subst (λ (o : Option BuildState). OnBuild o (λ x. (k : ℕ) → k < length x.specs → in_ring x s.work k ≡ 0)) (sym runs)
    (λ k less. sym (ap (λ (o : Option BuildState). ring_of o s k) runs) ∙ none k (omega (arith, less, far)))

-- and of a settled one nothing waits
pub ring_settled : (s : CoreState) (b : BuildState) → s.live.build ≡ Some b → IsSettled s → (k : ℕ) → k < length b.specs → in_ring b s.work k ≡ 0
ring_settled s b runs settled =
    subst (λ (o : Option BuildState). OnBuild o (λ x. (k : ℕ) → k < length x.specs → in_ring x s.work k ≡ 0)) runs settled

-- What is left to feed.

-- an entry fed is one that isn't left, and of the others as many are
module _ (b : BuildState) (log : List LogRec) (index count : ℕ) where
  abbrev fed_on : BuildState
  fed_on = after_feed b index count

  unfed_other : (k : ℕ) (o : Option KeySpecValue) → (k ≡ index → ⊥) → unfed fed_on log k o ≡ unfed b log k o
  unfed_other k None other = refl
  unfed_other k (Some spec) other = ap (λ n. all_entries b log spec - n) (get_or-set_other b.fed index k (fed_to b index + count) 0 other)

  unfed_here : (o : Option KeySpecValue) → index < length b.fed → count ≤ unfed b log index o → unfed fed_on log index o + count ≡ unfed b log index o
  unfed_here None there few = omega (arith, few)
  unfed_here (Some spec) there few =
      let now : fed_to fed_on index ≡ fed_to b index + count = get_or-set_same b.fed index (fed_to b index + count) 0 there in
      omega (arith, now, few)

  before_same : (n : ℕ) → n ≤ index → unfed_before n fed_on log ≡ unfed_before n b log
  before_same zero far = refl
  before_same (suc n) far =
      let earlier = before_same n (omega (arith, far)) in
      let here = unfed_other n (slice_get b.specs n) (λ same. omega (arith, same, far)) in
      omega (arith, earlier, here)

  before_fed :
      (n : ℕ) → index < n → index < length b.fed → count ≤ unfed b log index (slice_get b.specs index) → unfed_before n fed_on log + count ≡ unfed_before n b log
  before_fed zero less there few = absurd (omega (arith, less))
  before_fed (suc n) less there few = elim (cases_Bool (n == index)) [
    | inl here ↦
        let same : n ≡ index = eqb-true n index here in
        let earlier = before_same n (omega (arith, same)) in
        let now = unfed_here (slice_get b.specs index) there few in
        let first : unfed fed_on log n (slice_get b.specs n) ≡ unfed fed_on log index (slice_get b.specs index) =
        ap (λ i. unfed fed_on log i (slice_get b.specs i)) same in
        let second : unfed b log n (slice_get b.specs n) ≡ unfed b log index (slice_get b.specs index) = ap (λ i. unfed b log i (slice_get b.specs i)) same in
        omega (arith, earlier, now, first, second)
    | inr other ↦
        let differ : n ≡ index → ⊥ = eqb-false n index other in
        let earlier = before_fed n (further less differ) there few in
        let now = unfed_other n (slice_get b.specs n) differ in
        omega (arith, earlier, now)
  ] where
    further : index < suc n → (n ≡ index → ⊥) → index < n
    further less differ = elim (cases_lt index n) [
      | inl is ↦ is
      | inr more ↦ absurd (differ (omega (arith, less, more)))
    ]

-- how far a build is that is being fed: how many entries of its first indexes, and of all, were not fed
pub record IsBeingFed (most index : ℕ) (s new : CoreState) : Type 0 where
  pub build : BuildState
  pub runs : s.live.build ≡ Some build
  pub list : List ℕ
  pub many : length list ≡ length build.specs
  pub new_is : new ≡ record s { live = record s.live { build = Some (record build { fed = list }) } }
  -- the others are as they were
  pub others : (k : ℕ) → index ≤ k → get_or list k 0 ≡ fed_to build k
  pub fed : ℕ
  pub counted : all_unfed (record build { fed = list }) s.live.heap.log + fed ≡ all_unfed build s.live.heap.log
  -- of each of the first a batch was taken
  pub each : (k : ℕ) → k < index → TakesMost most (left_of_index build s.live.heap.log k) (get_or list k 0 - fed_to build k)
  -- all that was left of the first was fed, or the most less a chunk
  pub many_fed : (most < fed + 1024) ⊎ (fed ≡ unfed_before index build s.live.heap.log)
  pub within : fed ≤ index * most

pub not_fed_yet : (most : ℕ) (s : CoreState) (b : BuildState) → s.live.build ≡ Some b → length b.fed ≡ length b.specs → IsBeingFed most 0 s s
not_fed_yet most s b runs many = record {
  build = b;
  runs = runs;
  list = b.fed;
  many = many;
  new_is = ap (λ (o : Option BuildState). record s { live = record s.live { build = o } }) runs;
  others = λ k less. refl;
  fed = 0;
  counted = omega arith;
  each = λ k less. absurd (omega (arith, less));
  many_fed = inr refl;
  within = omega arith;
}

-- one index more was fed
module _ (most index : ℕ) (s mid : CoreState) (being : IsBeingFed most index s mid) (less : index < length being.build.specs) where
  abbrev its_log : List LogRec
  its_log = s.live.heap.log

  abbrev now : BuildState
  now = record being.build { fed = being.list }

  its_place : fed_to now index ≡ fed_to being.build index
  its_place = being.others index (omega arith)

  -- nothing waits in its ring, as before
  pub still_empty : IsSettled s → ring_at index mid ≡ 0
  still_empty settled =
      let before : in_ring being.build s.work index ≡ 0 = ring_settled s being.build being.runs settled index less in
      ap (ring_at index) being.new_is ∙ ap (λ n. n - (index_at s.work.indexes index).applied) its_place ∙ before

  pub is_there : OnBuild mid.live.build (λ b. index < length b.specs)
  is_there = subst (λ (m : CoreState). OnBuild m.live.build (λ b. index < length b.specs)) (sym being.new_is) less

  module _ (count : ℕ) (new : CoreState) (feeds : FeedsBatch index most mid count new) where
    fed_so :
        (count ≤ left_of_index now its_log index) × TakesMost most (left_of_index now its_log index) count × (count ≤ most)
        × (new ≡ record s { live = record s.live { build = Some (after_feed now index count) } })
    fed_so = subst (λ (m : CoreState). FeedsBatch index most m count new) being.new_is feeds

    left_was : (o : Option KeySpecValue) → unfed now its_log index o ≡ unfed being.build its_log index o
    left_was None = refl
    left_was (Some spec) = ap (λ n. all_entries being.build its_log spec - n) its_place

    count_of : (count ≡ left_of_index now its_log index) ⊎ (most < count + 1024)
    count_of = elim (cases_lt count (left_of_index now its_log index)) [
      | inl less ↦ inr (fed_so.1.stops less)
      | inr more ↦ inl (omega (arith, more, fed_so.0))
    ]

    one_more_fed : (most < being.fed + count + 1024) ⊎ (being.fed + count ≡ unfed_before (index + 1) being.build its_log)
    one_more_fed = elim being.many_fed [
      | inl before ↦ inl (omega (arith, before))
      | inr earlier ↦ elim count_of [
        | inr full ↦ inl (omega (arith, full))
        | inl all ↦
            let was = left_was (slice_get being.build.specs index) in
            let next : index + 1 ≡ suc index = omega arith in
            let sum : being.fed + count ≡ unfed_before (suc index) being.build its_log = omega (arith, earlier, all, was) in
            inr (sum ∙ sym (ap (λ n. unfed_before n being.build its_log) next))
      ]
    ]

    pub fed_one_more : IsBeingFed most (index + 1) s new
    fed_one_more =
        let here : index < length being.list = omega (arith, less, being.many) in
        let sum = before_fed now its_log index count (length being.build.specs) less here fed_so.0 in
        let next : index + 1 ≡ suc index = omega arith in
        let one_more : (index + 1) * most ≡ index * most + most = ap (λ n. n * most) next ∙ omega arith in
        record {
          build = being.build;
          runs = being.runs;
          list = set being.list index (fed_to now index + count);
          many = length-set being.list index (fed_to now index + count) ∙ being.many;
          new_is = fed_so.3;
          others = λ k more.
              get_or-set_other being.list index k (fed_to now index + count) 0 (λ same. omega (arith, same, more)) ∙ being.others k (omega (arith, more));
          fed = being.fed + count;
          counted = omega (arith, sum, being.counted);
          each = λ k more. elim (cases_lt k index) [
            | inl earlier ↦
                let other : get_or (set being.list index (fed_to now index + count)) k 0 ≡ get_or being.list k 0 =
                get_or-set_other being.list index k (fed_to now index + count) 0 (λ same. omega (arith, same, earlier)) in
                rw other (being.each k earlier)
            | inr last ↦
                let same : k ≡ index = omega (arith, more, last) in
                let put : get_or (set being.list index (fed_to now index + count)) index 0 ≡ fed_to now index + count =
                get_or-set_same being.list index (fed_to now index + count) 0 here in
                let taken : get_or (set being.list index (fed_to now index + count)) index 0 - fed_to being.build index ≡ count =
                omega (arith, put, its_place) in
                rw (same, taken, ← left_was (slice_get being.build.specs index)) fed_so.1
          ];
          many_fed = one_more_fed;
          within = omega (arith, one_more, fed_so.2, being.within);
        }

-- all were fed
module _ (most : ℕ) (live new_live : LiveValue) (building new : BuildingValue) (index : ℕ) (being : IsBeingFed most index (core_state live building) (core_state new_live new)) where
  pub only_feeds : OnlyFeeds (core_state live building) (core_state new_live new)
  only_feeds = record { build = being.build; runs = being.runs; fed = being.list; new_is = being.new_is }

  pub feeds_each : length being.build.specs ≡ index → FeedsEach most (core_state live building) (core_state new_live new)
  feeds_each all =
      let each : (k : ℕ) → k < length being.build.specs
      → TakesMost most (left_of_index being.build live.state.heap.log k) (get_or being.list k 0 - fed_to being.build k) =
      λ k less. being.each k (omega (arith, less, all)) in
      subst (λ (t : CoreState). FeedsEach most (core_state live building) t) (sym being.new_is)
      (subst (λ (o : Option BuildState). OnBuild o (λ b. (k : ℕ) → k < length b.specs
      → TakesMost most (left_of_index b live.state.heap.log k) (get_or being.list k 0 - fed_to b k))) (sym being.runs) each)

  state_is : new_live.state ≡ record live.state { build = Some (record being.build { fed = being.list }) }
  state_is = ap (λ (s : CoreState). s.live) being.new_is

  waiting_was : waiting_in live.state ≡ all_unfed being.build live.state.heap.log
  waiting_was = ap (λ (o : Option BuildState). entries_waiting o live.state.heap.log) being.runs

  pub fed_and_left : waiting_in new_live.state + being.fed ≡ waiting_in live.state
  fed_and_left =
      let after = ap waiting_in state_is in
      omega (arith, after, being.counted, waiting_was)

  pub many_were_fed : length being.build.specs ≡ index → (most < being.fed + 1024) ⊎ (being.fed ≡ waiting_in live.state)
  many_were_fed all = elim being.many_fed [
    | inl many ↦ inl many
    | inr each ↦ inr (each ∙ sym (ap (λ n. unfed_before n being.build live.state.heap.log) all) ∙ sym waiting_was)
  ]

  pub were_within : length being.build.specs ≡ index → OnBuild live.state.build (λ b. being.fed ≤ length b.specs * most)
  were_within all =
      subst (λ (o : Option BuildState). OnBuild o (λ b. being.fed ≤ length b.specs * most)) (sym being.runs)
      (subst (λ n. being.fed ≤ n * most) (sym all) being.within)

-- What a settled build has left is what isn't fed.

-- the entries of an index that is settled
one_settled : (b : BuildState) (log : List LogRec) (k : ℕ) (spec : KeySpecValue) (it : IndexState) → fed_to b k - it.applied ≡ 0 → unapplied b log spec it ≤ unfed b log k (Some spec)
one_settled b log k spec it none = omega (arith, none)

pub unapplied_few :
    (s : CoreState) (b : BuildState) → s.live.build ≡ Some b → length s.work.indexes ≡ length b.specs → IsSettled s
    → all_unapplied b s.live.heap.log b.specs s.work.indexes ≤ all_unfed b s.live.heap.log
unapplied_few s b runs many settled =
    let sum = all_left s b runs many in
    let few = by_place (length b.specs) (omega arith) in
    omega (arith, sum, few) where
      at_place : (k : ℕ) (o : Option KeySpecValue) → in_ring b s.work k ≡ 0 → slice_get b.specs k ≡ o → left_at k s ≤ unfed b s.live.heap.log k o
      at_place k None none at = let here : left_at k s ≡ 0 = ap (λ (p : Option BuildState). left_of p s k) runs ∙ ap (unapplied_at b s k) at in omega (arith, here)
      at_place k (Some spec) none at =
          let here : left_at k s ≡ unapplied b s.live.heap.log spec (index_at s.work.indexes k) =
          ap (λ (p : Option BuildState). left_of p s k) runs ∙ ap (unapplied_at b s k) at in
          let most = one_settled b s.live.heap.log k spec (index_at s.work.indexes k) none in
          omega (arith, here, most)

      by_place : (n : ℕ) → n ≤ length b.specs → left_before n s ≤ unfed_before n b s.live.heap.log
      by_place zero fits = omega arith
      by_place (suc n) fits =
          let earlier = by_place n (omega (arith, fits)) in
          let here = at_place n (slice_get b.specs n) (ring_settled s b runs settled n (omega (arith, fits))) refl in
          omega (arith, earlier, here)

-- How many are left, counted in the side-files.

-- those of the first so many indexes
abbrev pub waiting_before : ℕ → Option BuildState → List LogRec → ℕ
waiting_before n None log = 0
waiting_before n (Some b) log = unfed_before n b log

left_in_side :
    (b : BuildState) (log : List LogRec) (index : ℕ) (entries : List Entry) → index < length b.specs → AreEntriesLeft log (Some b) index entries
    → unfed b log index (slice_get b.specs index) ≡ length entries
left_in_side b log index entries less left =
    let it = there_is b.specs index less in
    let all : List SideEntry = side_entries (scanning_of b it.0) log in
    ap (unfed b log index) it.1
    ∙ sym (ap (λ (es : List Entry). length es) (left it.0 it.1) ∙ length-map (drop (fed_to b index) all) (entry_of b.number) ∙ length-drop (fed_to b index) all)

pub left_in :
    (log : List LogRec) (o : Option BuildState) (index : ℕ) (entries : List Entry) → IsSome o → IfSome o (λ b. index < length b.specs) → AreEntriesLeft log o index entries
    → OnBuild o (λ b. length entries ≡ unfed b log index (slice_get b.specs index))
left_in log None index entries runs less left = absurd left
left_in log (Some b) index entries runs less left = sym (left_in_side b log index entries less left)

-- there is a side-file for each index of the build
pub side_free : (o : Option BuildState) (index : ℕ) → IsSome o → IfSome o (λ b. index < length b.specs) → side_refusal o index ≡ None
side_free None index runs less = absurd (cc)
side_free (Some b) index runs less = rw (inside_of b index less) refl

pub one_more_left :
    (o : Option BuildState) (log : List LogRec) (index count : ℕ) → OnBuild o (λ b. count ≡ unfed b log index (slice_get b.specs index))
    → waiting_before (index + 1) o log ≡ waiting_before index o log + count
one_more_left None log index count is = absurd is
one_more_left (Some b) log index count is =
    let next : index + 1 ≡ suc index = omega arith in
    ap (λ n. unfed_before n b log) next ∙ ap (λ n. unfed_before index b log + n) (sym is)

pub all_before : (o : Option BuildState) (log : List LogRec) (b : BuildState) → o ≡ Some b → (n : ℕ) → n ≡ length b.specs → waiting_before n o log ≡ entries_waiting o log
all_before o log b runs n all =
    ap (λ (p : Option BuildState). waiting_before n p log) runs ∙ ap (λ k. unfed_before k b log) all ∙ sym (ap (λ (p : Option BuildState). entries_waiting p log) runs)

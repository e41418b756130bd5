-- How many entries are left of an index, and of all of a build.
use Rattle.std.proofs.Common.{◌≡◌, ℕ, zero, suc, ◌+◌, ◌-◌, ◌<◌, ◌≤◌, List, [], ◌∷◌, length, map, get_or, Option, Some, None, refl, sym, ap, ap₂, ◌∙◌, subst, arith}
use Rattle.std.specs.Prelude.{IsSome, IfSome}
use Rattle.std.specs.List.{slice_get}
use Rattle.std.proofs.lemmas.List.{length-map}
use Rattle.keybytes.specs.Keys.{KeySpecValue}
use Rattle.heap_log.specs.declared.record.LogRec.{LogRec}
use Rattle.live_lemmas.specs.Builds.{LiveValue, StandsBeside, core_state}
use Rattle.building.specs.BuildingValue.{BuildingValue, WorkValue, IndexValue, work_state, index_state}
use Rattle.building.specs.WorkOn.{WorkMatches}
use Rattle.table_scan.specs.TableBuilds.{BuildFollows}
use Rattle.live_lemmas.specs.CatchingUp.{left_at, left_of, unapplied_at}
use Rattle.build_events.specs.CoreState.{BuildState, IndexState, CoreState}
use Rattle.table_scan.specs.SideFiles.{HasEntries, SidesFollow, put_ends}
use Rattle.side_file.specs.Ends.{PutEnd}
use Rattle.side_file.specs.SideFileValue.{SideFileValue}
use Rattle.side_file.specs.declared.entry.Entry.{Entry}
use Rattle.std.proofs.lemmas.Bool.{false≢true}
use Rattle.table_scan.proofs.Feeding.{left_unfed, fed_entries_there}
use Rattle.live_lemmas.proofs.Refusals.{running}
use Rattle.build_events.specs.Workers.{all_entries, all_unapplied, fed_to, index_at, unapplied, unfed}
use Rattle.live_lemmas.proofs.FedBeside.{indexes_seen}
use Rattle.page_workers.proofs.Places.{at_index, map_at, there_is}
use Rattle.live_lemmas.proofs.IndexFurther.{at_is}

-- numbers added up, and all but the first
abbrev sum_to : ℕ → (ℕ → ℕ) → ℕ
sum_to zero f = 0
sum_to (suc n) f = sum_to n f + f n

sum_shift : (n : ℕ) (f : ℕ → ℕ) → sum_to (suc n) f ≡ f 0 + sum_to n (λ k. f (suc k))
sum_shift zero f = omega arith
sum_shift (suc n) f = let rest = sum_shift n f in omega (arith, rest)

sum_same : (n : ℕ) (f h : ℕ → ℕ) → ((k : ℕ) → k < n → f k ≡ h k) → sum_to n f ≡ sum_to n h
sum_same zero f h same = refl
sum_same (suc n) f h same = ap₂ (λ (x y : ℕ). x + y) (sum_same n f h (λ k less. same k (omega (arith, less)))) (same n (omega arith))

-- the entries left of the first so many indexes, together
abbrev pub left_before : ℕ → CoreState → ℕ
left_before n s = sum_to n (λ k. left_at k s)

-- what is left of the index in that place
one_left : BuildState → List LogRec → Option KeySpecValue → IndexState → ℕ
one_left b log None index = 0
one_left b log (Some spec) index = unapplied b log spec index

abbrev at_place : BuildState → List LogRec → List KeySpecValue → List IndexState → ℕ → ℕ
at_place b log specs indexes k = one_left b log (slice_get specs k) (index_at indexes k)

sum_is : (b : BuildState) (log : List LogRec) (specs : List KeySpecValue) (indexes : List IndexState) → length indexes ≡ length specs
    → sum_to (length specs) (at_place b log specs indexes) ≡ all_unapplied b log specs indexes
unfolding one_left
sum_is b log [] indexes many = refl
sum_is b log (spec ∷ specs) [] many = absurd (omega (arith, many))
sum_is b log (spec ∷ specs) (index ∷ indexes) many =
    sum_shift (length specs) (at_place b log (spec ∷ specs) (index ∷ indexes))
    ∙ ap (λ n. unapplied b log spec index + n) (sum_is b log specs indexes (omega (arith, many)))

left_is_place : (b : BuildState) (s : CoreState) (k : ℕ) (o : Option KeySpecValue) → unapplied_at b s k o ≡ one_left b s.live.heap.log o (index_at s.work.indexes k)
unfolding one_left
left_is_place b s k None = refl
left_is_place b s k (Some spec) = refl

-- those of all are what is left of the build
pub all_left : (s : CoreState) (b : BuildState) → s.live.build ≡ Some b → length s.work.indexes ≡ length b.specs
    → left_before (length b.specs) s ≡ all_unapplied b s.live.heap.log b.specs s.work.indexes
all_left s b runs many =
    sum_same (length b.specs) (λ k. left_at k s) (at_place b s.live.heap.log b.specs s.work.indexes)
    (λ k less. ap (λ (o : Option BuildState). left_of o s k) runs ∙ left_is_place b s k (slice_get b.specs k))
    ∙ sum_is b s.live.heap.log b.specs s.work.indexes many

-- the build's indexes are as many as its specifications
pub indexes_many :
    (live : LiveValue) (building : BuildingValue) (b : BuildState) → live.state.build ≡ Some b → StandsBeside live building
    → length (work_state building.workers building.work).indexes ≡ length b.specs
indexes_many live building b is works =
    by_work building.work (subst (λ (o : Option BuildState). WorkMatches live.state.heap.schema live.state.heap.log o building.work) is works.work) where
      by_work : (o : Option WorkValue) → WorkMatches live.state.heap.schema live.state.heap.log (Some b) o → length (work_state building.workers o).indexes ≡ length b.specs
      by_work None on = absurd on
      by_work (Some w) on = ap length (indexes_seen w.spoiled building.workers w) ∙ length-map w.indexes index_state ∙ on.many

-- what is left of an index, by its side-file and its work
pub left_known :
    (live : LiveValue) (building : BuildingValue) (index applied : ℕ) (sides : List SideFileValue) (side : SideFileValue) (w : WorkValue) → StandsBeside live building
    → building.work ≡ Some w → IsSome live.state.build → IfSome live.state.build (λ b. index < length b.specs)
    → BuildFollows live.state.heap.schema live.state.heap.log live.state.build → SidesFollow live.state.heap.log live.state.build sides
    → live.sides ≡ put_ends sides → length sides ≡ 8 → side ≡ get_or sides index side → length building.sides ≡ 8
    → ((it : IndexValue) → slice_get w.indexes index ≡ Some it → applied ≡ it.applied)
    → (applied ≤ length side.fed) × (length side.left + (length side.fed - applied) ≡ left_at index (core_state live building))
left_known live building index applied sides side w works held runs below_specs follows has puts eight_puts at eight is = by_build live.state.build refl where
  by_build : (o : Option BuildState) → live.state.build ≡ o
      → (applied ≤ length side.fed) × (length side.left + (length side.fed - applied) ≡ left_at index (core_state live building))
  by_build None gone = absurd (false≢true (subst (λ (o : Option BuildState). IsSome o) gone runs))
  by_build (Some b) gone =
      let run = running live building b w gone held follows works in
      let less : index < length b.specs = subst (λ (o : Option BuildState). IfSome o (λ x. index < length x.specs)) gone below_specs in
      let many = run.on.many in
      let few = run.follows.few_indexes in
      let there = at_index sides index side at (omega (arith, less, few, eight_puts)) in
      let spec = there_is b.specs index less in
      let it = there_is w.indexes index (omega (arith, less, many)) in
      let end = there_is building.sides index (omega (arith, less, few, eight)) in
      let put : slice_get live.sides index ≡ Some side.end =
      ap (λ (ps : List (PutEnd Entry)). slice_get ps index) puts ∙ map_at (λ (s : SideFileValue). s.end) sides index side there in
      let ring = run.at_work.fed index it.0 side.end end.0 it.1 put end.1 in
      let its : HasEntries live.state.heap.log b index spec.0 side =
      (subst (λ (o : Option BuildState). SidesFollow live.state.heap.log o sides) gone has) index spec.0 side spec.1 there in
      let applied_is = is it.0 it.1 in
      let unfed_is = left_unfed live.state.heap.log b index spec.0 side spec.1 its in
      let unfed_now : all_entries b live.state.heap.log spec.0 - fed_to b index ≡ length side.left = sym (ap (unfed b live.state.heap.log index) spec.1) ∙ unfed_is in
      let indexes : (work_state building.workers building.work).indexes ≡ map index_state w.indexes =
      ap (λ (o : Option WorkValue). (work_state building.workers o).indexes) held ∙ indexes_seen w.spoiled building.workers w in
      let seen : index_at (work_state building.workers building.work).indexes index ≡ index_state it.0 =
      ap (λ (is : List IndexState). index_at is index) indexes ∙ at_is (map index_state w.indexes) index (index_state it.0) (map_at index_state w.indexes index it.0 it.1) in
      let left : left_at index (core_state live building) ≡ all_entries b live.state.heap.log spec.0 - it.0.applied =
      ap (λ (o : Option BuildState). left_of o (core_state live building) index) gone ∙ ap (unapplied_at b (core_state live building) index) spec.1
      ∙ ap (λ (i : IndexState). all_entries b live.state.heap.log spec.0 - i.applied) seen in
      let there_all = (fed_entries_there live.state.heap.log b index spec.0 side its) in
      (omega (arith, ring.counted, its.count, applied_is), omega (arith, ring.counted, its.count, applied_is, unfed_now, left, there_all))

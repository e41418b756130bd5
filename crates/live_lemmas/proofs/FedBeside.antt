-- What feeding leaves with both ends of the side-file's ring at hand.
use Rattle.std.proofs.Common.{◌≡◌, ℕ, ◌-◌, ◌<◌, ◌≤◌, List, length, map, min, Option, Some, None, Result, Ok, Err, IfOk, IfErr, OnOk, OnErr, refl, sym}
use Rattle.std.proofs.Common.{ap, ◌∙◌, subst, arith}
use Rattle.std.specs.List.{slice_get}
use Rattle.std.proofs.Math.Nat.{min-le_left, min-le_right, le-min}
use Rattle.keybytes.specs.declared.fault.Fault.{Fault}
use Rattle.page_workers.specs.WorkerValue.{WorkerValue}
use Rattle.live_lemmas.specs.Builds.{LiveValue, StandsBeside, SideIsLooked, SeesSideAt, HasFed, least_fed}
use Rattle.building.specs.BuildingValue.{BuildingValue, WorkValue, state_unless, work_state, index_state}
use Rattle.table_scan.specs.TableBuilds.{BuildFollows}
use Rattle.live_lemmas.specs.Builds.{core_state}
use Rattle.live_lemmas.specs.Settling.{FeedsBatch, HasFedBatch, left_of_index, ring_at, ring_of}
use Rattle.building.specs.WorkOn.{WorkMatches}
use Rattle.build_events.specs.CoreState.{BuildState, IndexState, LiveState, CoreState}
use Rattle.table_scan.specs.SideFiles.{side_refusal}
use Rattle.side_file.specs.Changes.{TakesMost}
use Rattle.side_file.specs.Ends.{PutEnd}
use Rattle.side_file.specs.declared.entry.Entry.{Entry}
use Rattle.std.proofs.lemmas.Option.{same_Some, get_or_from_slice_get}
use Rattle.page_workers.proofs.Places.{there_is, map_at}
use Rattle.table_scan.proofs.SideEnds.{index_below}
use Rattle.build_events.specs.BuildSteps.{OnBuild, Feeds, build_cause, index_refusal, next_fed, after_feed}
use Rattle.build_events.specs.Workers.{fed_to, in_ring, index_at, unfed}
use Rattle.live_lemmas.proofs.Feeding.{state_side_looked, works_side_looked}
use Rattle.table_scan.proofs.Feeding.{waiting_in_ring}
use Rattle.live_lemmas.proofs.Refusals.{running}

-- why nothing is fed is why there is no side-file
side_cause : (o : Option BuildState) (index : ℕ) → build_cause o (λ b. index_refusal b index) ≡ side_refusal o index
side_cause None index = refl
side_cause (Some b) index = refl

-- how far its indexes are, as callers see it, whether it is spoiled or not
pub indexes_seen : (o : Option Fault) (workers : List WorkerValue) (w : WorkValue) → (state_unless o workers w).indexes ≡ map index_state w.indexes
indexes_seen None workers w = refl
indexes_seen (Some fault) workers w = refl

-- the least of what is asked, of what is left and of what finds room
least_is : (most left room : ℕ) → room ≤ 256 → min (min most room) (min 256 left) ≡ min most (min left room)
least_is most left room fits = both (min-le_left most room) where
  both : min most room ≤ most → min (min most room) (min 256 left) ≡ min most (min left room)
  both first =
      let a = min-le_left (min most room) (min 256 left) in
      let b = min-le_right (min most room) (min 256 left) in
      let c = min-le_right most room in
      let d = min-le_right 256 left in
      let e = min-le_left most (min left room) in
      let f = min-le_right most (min left room) in
      let g = min-le_left left room in
      let h = min-le_right left room in
      let up : min (min most room) (min 256 left) ≤ min most (min left room) =
      le-min (omega (arith, a, first)) (le-min (omega (arith, b, d)) (omega (arith, a, c))) in
      let down : min most (min left room) ≤ min (min most room) (min 256 left) =
      le-min (le-min e (omega (arith, f, h))) (le-min (omega (arith, f, h, fits)) (omega (arith, f, g))) in
      omega (arith, up, down)

module _
    (index : ℕ) (live new_live : LiveValue) (building mid : BuildingValue) (looked : SideIsLooked index live building new_live mid) where
  state_is : new_live.state ≡ live.state
  state_is = ap (λ (l : LiveValue). l.state) looked.puts

  pub fed_refused :
      (answer : Result ℕ Fault) → IfErr answer (λ fault. side_refusal new_live.state.build index ≡ Some fault)
      → IfErr answer (λ fault. build_cause live.state.build (λ b. index_refusal b index) ≡ Some fault)
  fed_refused (Ok n) refused = tt
  fed_refused (Err fault) refused = side_cause live.state.build index ∙ ap (λ (s : LiveState). side_refusal s.build index) (sym state_is) ∙ refused

  pub fed_accepted :
      (answer : Result ℕ Fault) → OnOk answer (side_refusal new_live.state.build index ≡ None)
      → OnOk answer (build_cause live.state.build (λ b. index_refusal b index) ≡ None)
  fed_accepted (Err fault) free = tt
  fed_accepted (Ok n) free = side_cause live.state.build index ∙ ap (λ (s : LiveState). side_refusal s.build index) (sym state_is) ∙ free

  -- once there is such a side-file, its feed isn't refused
  pub fed_unchanged :
      (new : LiveValue) (new_building : BuildingValue) (answer : Result ℕ Fault) → side_refusal live.state.build index ≡ None
      → IfErr answer (λ fault. side_refusal new_live.state.build index ≡ Some fault) → OnErr answer ((new ≡ live) × (new_building ≡ building))
  fed_unchanged new new_building (Ok n) there refused = tt
  fed_unchanged new new_building (Err fault) there refused =
      let same = ap (λ (s : LiveState). side_refusal s.build index) state_is in
      absurd (cc (same, there, refused))

  module _
      (works : StandsBeside live building) (follows : BuildFollows new_live.state.heap.schema new_live.state.heap.log new_live.state.build) (waiting : ℕ)
      (sees : SeesSideAt index waiting new_live mid) where
    works_mid : StandsBeside new_live mid
    works_mid = works_side_looked index live new_live building mid looked works

    -- what waits, as callers see it
    waits :
        (b : BuildState) (x : Option WorkValue) → new_live.state.build ≡ Some b → mid.work ≡ x → index < length b.specs
        → waiting ≡ in_ring b (work_state mid.workers mid.work) index
    waits b None is held less =
        absurd (subst (λ (o : Option BuildState). WorkMatches new_live.state.heap.schema new_live.state.heap.log o None) is
        (subst (WorkMatches new_live.state.heap.schema new_live.state.heap.log new_live.state.build) held works_mid.work))
    waits b (Some w) is held less =
        let run = running new_live mid b w is held follows works_mid in
        let many = run.on.many in
        let it = there_is w.indexes index (omega (arith, less, many)) in
        let fed = run.at_work.fed index it.0 sees.put sees.end it.1 sees.put_there sees.end_there in
        let seen : index_at (map index_state w.indexes) index ≡ index_state it.0 =
        get_or_from_slice_get (map index_state w.indexes) index (index_state it.0) _ (map_at index_state w.indexes index it.0 it.1) in
        (waiting_in_ring (fed_to b index) it.0.applied waiting sees.put sees.end fed sees.sees).1
        ∙ ap (λ (i : IndexState). fed_to b index - i.applied) (sym seen)
        ∙ sym (ap (λ (o : Option WorkValue). in_ring b (work_state mid.workers o) index) held
        ∙ ap (λ (is : List IndexState). fed_to b index - (index_at is index).applied) (indexes_seen w.spoiled mid.workers w))

    feeds_next :
        (most place : ℕ) (new : LiveValue) (count : ℕ) → place ≡ min most (256 - waiting) → side_refusal new_live.state.build index ≡ None
        → HasFed index place new_live count new → Feeds index most (core_state new_live mid) count (core_state new mid)
    feeds_next most place new count least free fed =
        let b : BuildState = fed.build in
        let less = index_below b index (ap (λ (o : Option BuildState). side_refusal o index) (sym fed.runs) ∙ free) in
        let left : ℕ = unfed b new_live.state.heap.log index (slice_get b.specs index) in
        let small = min-le_left place (min 256 left) in
        let fits = min-le_right most (256 - waiting) in
        let its_put : fed.put ≡ sees.put = same_Some fed.put sees.put (sym fed.there ∙ sees.put_there) in
        let free_places = ap (λ (p : PutEnd Entry). p.free) its_put in
        let all : count ≡ least_fed b new_live.state.heap.log index place = fed.exact (omega (arith, small, least, fits, sees.sees.free, free_places)) in
        let room : 256 - waiting ≡ 256 - in_ring b (work_state mid.workers mid.work) index = ap (λ n. 256 - n) (waits b mid.work fed.runs refl less) in
        let next : count ≡ next_fed b new_live.state.heap.log (work_state mid.workers mid.work) index most =
        all ∙ ap (λ p. min p (min 256 left)) least ∙ least_is most left (256 - waiting) (omega arith) ∙ ap (λ r. min most (min left r)) room in
        subst (λ (o : Option BuildState). OnBuild o (λ x. (count ≡ next_fed x new_live.state.heap.log (work_state mid.workers mid.work) index most)
        × (core_state new mid ≡ record (core_state new_live mid) { live = record new_live.state { build = Some (after_feed x index count) } }))) (sym fed.runs)
        (next, ap (λ (s : LiveState). record (core_state new_live mid) { live = s }) fed.left)

    pub feeds_beside :
        (most place : ℕ) (new : LiveValue) (answer : Result ℕ Fault) → place ≡ min most (256 - waiting)
        → OnOk answer (side_refusal new_live.state.build index ≡ None) → IfOk answer (λ count. HasFed index place new_live count new)
        → IfOk answer (λ count. Feeds index most (core_state live building) count (core_state new mid))
    feeds_beside most place new (Err fault) least free fed = tt
    feeds_beside most place new (Ok count) least free fed =
        subst (λ (s : CoreState). Feeds index most s count (core_state new mid)) (state_side_looked index live new_live building mid looked)
        (feeds_next most place new count least free fed)

    -- where nothing waits in the ring there is a place for a batch
    pub batch_beside :
        (most : ℕ) (new : LiveValue) (count : ℕ) → OnBuild live.state.build (λ b. index < length b.specs) → ring_at index (core_state live building) ≡ 0
        → HasFedBatch index most new_live count new → FeedsBatch index most (core_state live building) count (core_state new mid)
    batch_beside most new count there none fed =
        let b : BuildState = fed.build in
        let runs : live.state.build ≡ Some b = sym (ap (λ (s : LiveState). s.build) state_is) ∙ fed.runs in
        let less : index < length b.specs = subst (λ (o : Option BuildState). OnBuild o (λ x. index < length x.specs)) runs there in
        let same = state_side_looked index live new_live building mid looked in
        let empty : in_ring b (work_state mid.workers mid.work) index ≡ 0 =
        sym (ap (λ (o : Option BuildState). ring_of o (core_state new_live mid) index) fed.runs) ∙ ap (ring_at index) same ∙ none in
        let its_put : fed.put ≡ sees.put = same_Some fed.put sees.put (sym fed.there ∙ sees.put_there) in
        let places = ap (λ (p : PutEnd Entry). p.free) its_put in
        let seen = waits b mid.work fed.runs refl less in
        let whole : TakesMost most (left_of_index b new_live.state.heap.log index) count = fed.whole (omega (arith, sees.sees.free, seen, empty, places)) in
        subst (λ (s : CoreState). FeedsBatch index most s count (core_state new mid)) same
        (subst (λ (o : Option BuildState). OnBuild o (λ x. (count ≤ left_of_index x new_live.state.heap.log index)
        × TakesMost most (left_of_index x new_live.state.heap.log index) count × (count ≤ most)
        × (core_state new mid ≡ record (core_state new_live mid) { live = record new_live.state { build = Some (after_feed x index count) } }))) (sym fed.runs)
        (fed.few, whole, fed.within, ap (λ (s : LiveState). record (core_state new_live mid) { live = s }) fed.left))

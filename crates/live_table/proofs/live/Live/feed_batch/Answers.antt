use Rattle.std.proofs.Common.{ℕ, ◌<◌, ◌≤◌, ◌⊎◌, List, length, set, Option, Some, ◌≡◌, sym, ap, ◌∙◌, subst, inl, inr, arith}
use Rattle.std.proofs.lemmas.Bool.{cases_lt}
use Rattle.heap_table.specs.HeapState.{HeapState}
use Rattle.side_file.specs.Changes.{TakesMost}
use Rattle.side_file.specs.SideFileValue.{SideFileValue}
use Rattle.live_lemmas.specs.Builds.{LiveValue, StandsBeside}
use Rattle.live_lemmas.specs.Settling.{HasFedBatch}
use Rattle.building.specs.WorkOn.{WorkMatches, WorkersFollow}
use Rattle.table_scan.specs.TableBuilds.{IsBuildOf, BuildFollows}
use Rattle.build_events.specs.CoreState.{BuildState}
use Rattle.building.specs.Rings.{all_sent}
use Rattle.live_lemmas.specs.Rings.{HasPut, PagesFollow}
use Rattle.table_scan.specs.SideFiles.{HaveEntries, SidesFollow, put_ends, side_refusal}
use Rattle.live_lemmas.proofs.FedSides.{IsFedFrom, countable, follows_fed, have_fed, left_is, sent_of_builds, work_follows, workers_follow}
use Rattle.page_workers.proofs.Places.{at_index, map_at}
use Rattle.live_lemmas.proofs.SideEnds.{put_ends_stay, eight_sides}
use Rattle.ready_indexes.specs.Following.{indexes_of}
use Rattle.table_scan.proofs.SideEnds.{index_below}
use Rattle.live_table.proofs.live.Live.feed_batch.Given as given
use Rattle.live_table.proofs.live.Live.feed_batch.Goals as goal
use Rattle.live_table.proofs.live.Live.feed_batch.Goals.{After-laws}

-- no more is taken than is left
no_more : (most left count : ℕ) → count ≤ most → TakesMost most left count ⊎ (count ≡ 0) → count ≤ left
no_more most left count few takes = elim takes [
  | inl took ↦ elim (cases_lt most left) [
    | inl less ↦ omega (arith, few, less)
    | inr more ↦ let all = took.all more in omega (arith, all)
  ]
  | inr none ↦ omega (arith, none)
]

-- the side-file of the index that is fed
fed_from :
    (g : given.Over) (c : After-laws g)
    → IsFedFrom c.self.inside.heap.state c.in-Some.build c.args.index c.self.inside.sides.items c.index_mut-side.result.now c.feed_batch-count.result
    c.feed_batch-count.new.self
fed_from g c =
    let heap : HeapState = c.self.inside.heap.state in
    let b : BuildState = c.in-Some.build in
    let sides : List SideFileValue = c.self.inside.sides.items in
    let old : SideFileValue = c.index_mut-side.result.now in
    let runs : c.args.self.now.state.build ≡ Some b = ap (λ (l : LiveValue). l.state.build) (sym c.self.view_is) ∙ c.in-Some.is in
    let less : c.args.index < length b.specs = index_below b c.args.index (ap (λ (o : Option BuildState). side_refusal o c.args.index) (sym runs) ∙ c.requires.there) in
    let follows : IsBuildOf heap.schema heap.log b = subst (BuildFollows heap.schema heap.log) c.in-Some.is c.self.invariant.1 in
    let few = follows.few_indexes in
    let eight = eight_sides _ _ _ sides c.self.invariant.5 in
    let fed = c.feed_batch-count.ensures in
    record {
      follows = follows;
      less = less;
      there = at_index sides c.args.index old c.index_mut-side.ensures.value (omega (arith, less, few, eight));
      have = subst (λ o. SidesFollow heap.log o sides) c.in-Some.is c.self.invariant.2;
      feeds = fed.fed;
      few = no_more c.args.most (length old.left) c.feed_batch-count.result fed.most (elim fed.stops [
        | inl took ↦ inl took
        | inr none ↦ inr none.0
      ]);
      all = fed.all;
      kept = c.laws.ensures;
    }

pub note_fed-requires-clause-countable : goal.note_fed-requires-clause-countable
note_fed-requires-clause-countable g c = countable (fed_from g (goal.at.note_fed-requires-clause-countable g c).After-laws)

pub invariant_of-self : goal.invariant_of-self
invariant_of-self g c =
    let it = fed_from g (goal.at.invariant_of-self g c).After-laws in
    let inside = c.self.inside in
    let heap : HeapState = inside.heap.state in
    let b : BuildState = c.in-Some.build in
    let sides : List SideFileValue = inside.sides.items in
    let old : SideFileValue = c.index_mut-side.result.now in
    let new : SideFileValue = c.feed_batch-count.new.self in
    let put : HasPut heap.schema heap.log inside.builds b (all_sent inside.pages.items) =
    subst (λ (o : Option BuildState). PagesFollow heap.schema heap.log inside.builds o (all_sent inside.pages.items)) c.in-Some.is c.self.invariant.3 in (
      c.self.invariant.0,
      subst (IsBuildOf heap.schema heap.log) (sym c.note_fed.ensures) (follows_fed it),
      subst (λ (x : BuildState). HaveEntries heap.log x (set sides c.args.index new)) (sym c.note_fed.ensures) (have_fed it),
      subst (λ (x : BuildState). HasPut heap.schema heap.log inside.builds x (all_sent inside.pages.items)) (sym c.note_fed.ensures)
          (record { number = put.number; put = put.put }),
      c.self.invariant.4,
      put_ends_stay _ _ _ sides c.args.index old new c.self.invariant.5 c.index_mut-side.ensures.value it.feeds.ring,
      sent_of_builds it inside.builds put.number c.self.invariant.6,
    )

pub returns-clause-fed : goal.returns-clause-fed
returns-clause-fed g c =
    let it = fed_from g (goal.at.returns-clause-fed g c).After-laws in
    let inside = c.self.inside in
    let heap : HeapState = inside.heap.state in
    let sides : List SideFileValue = inside.sides.items in
    let old : SideFileValue = c.index_mut-side.result.now in
    let count : ℕ = c.feed_batch-count.result in
    let after : LiveValue = record {
      state = record { heap = heap; ready = indexes_of inside.ready.indexes; builds = inside.builds; build = Some c.note_fed.new.self };
      pages = inside.pages.items;
      sides = put_ends (set sides c.args.index c.feed_batch-count.new.self);
    } in
    subst (λ (l : LiveValue). HasFedBatch c.args.index c.args.most l count after) c.self.view_is (record {
      build = c.in-Some.build;
      runs = c.in-Some.is;
      few = subst (λ n. count ≤ n) (sym (left_is it)) it.few;
      within = c.feed_batch-count.ensures.most;
      put = old.end;
      there = map_at (λ (s : SideFileValue). s.end) sides c.args.index old it.there;
      whole = λ free. subst (λ n. TakesMost c.args.most n count) (sym (left_is it)) (c.feed_batch-count.ensures.whole free);
      left = ap (λ (x : BuildState). record { heap = heap; ready = indexes_of inside.ready.indexes; builds = inside.builds; build = Some x }) c.note_fed.ensures;
    })

pub returns-clause-works : goal.returns-clause-works
returns-clause-works g c = λ building works.
    let it = fed_from g (goal.at.returns-clause-works g c).After-laws in
    let inside = c.self.inside in
    let heap : HeapState = inside.heap.state in
    let sides : List SideFileValue = inside.sides.items in
    let before = subst (λ (l : LiveValue). StandsBeside l building) (sym c.self.view_is) works in
    record {
      work = subst (λ (x : BuildState). WorkMatches heap.schema heap.log (Some x) building.work) (sym c.note_fed.ensures)
          (work_follows it building.work (subst (λ (o : Option BuildState). WorkMatches heap.schema heap.log o building.work) c.in-Some.is before.work));
      workers =
          subst (λ (x : BuildState). WorkersFollow heap.schema inside.pages.items (put_ends (set sides c.args.index c.feed_batch-count.new.self)) building (Some x) building.work)
          (sym c.note_fed.ensures)
          (workers_follow it inside.pages.items building building.work
          (subst (λ (o : Option BuildState). WorkersFollow heap.schema inside.pages.items (put_ends sides) building o building.work) c.in-Some.is before.workers));
    }

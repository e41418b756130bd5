use Rattle.std.proofs.Common.{ℕ, ◌+◌, ◌<◌, ◌≤◌, List, length, set, min, Option, Some, ◌≡◌, refl, sym, ap, ◌∙◌, subst, arith, ◌++◌, take, drop}
use Rattle.std.proofs.lemmas.List.{map-set, take-map}
use Rattle.std.proofs.lemmas.Option.{same_Some}
use Rattle.std.specs.List.{slice_get}
use Rattle.heap_table.specs.HeapState.{HeapState}
use Rattle.side_file.specs.SideFileValue.{SideFileValue}
use Rattle.side_file.specs.declared.entry.Entry.{Entry}
use Rattle.live_lemmas.specs.Builds.{LiveValue, StandsBeside, HasFed, next_entries}
use Rattle.building.specs.WorkOn.{WorkMatches, WorkersFollow}
use Rattle.table_scan.specs.TableBuilds.{IsBuildOf, BuildFollows}
use Rattle.build_events.specs.CoreState.{BuildState, scanning_of}
use Rattle.building.specs.Rings.{all_sent}
use Rattle.live_lemmas.specs.Rings.{HasPut, PagesFollow}
use Rattle.table_scan.specs.SideFiles.{HaveEntries, SidesFollow, put_ends}
use Rattle.side_file.specs.Changes.{feed_most}
use Rattle.side_file.specs.Entries.{entry_of}
use Rattle.build_events.specs.Workers.{unfed, fed_to}
use Rattle.live_lemmas.proofs.FedSides.{IsFedFrom, countable, follows_fed, have_fed, its, its_spec, left_is, sent_of_builds, work_follows, workers_follow}
use Rattle.page_workers.proofs.Places.{at_index, map_at}
use Rattle.live_lemmas.proofs.SideEnds.{put_ends_stay, eight_sides}
use Rattle.ready_indexes.specs.Following.{indexes_of}
use Rattle.live_table.proofs.live.Live.feed.Given as given
use Rattle.live_table.proofs.live.Live.feed.Goals as goal
use Rattle.live_table.proofs.live.Live.feed.Goals.{After-laws}
use Rattle.build_events.specs.SideEntries.{side_entries}
use Rattle.table_scan.proofs.SideKept.{left_of}
use Rattle.keybytes.specs.Keys.{KeySpecValue}
use Rattle.visibility.specs.SideEntries.{SideEntry}

-- the side-file of the index that is fed
fed_from :
    (g : given.Over) (c : After-laws g)
    → IsFedFrom c.self.inside.heap.state c.in-Some.build c.args.index c.self.inside.sides.items c.index_mut-side.result.now c.feed-count.result
    c.feed-count.new.self
fed_from g c =
    let heap : HeapState = c.self.inside.heap.state in
    let b : BuildState = c.in-Some.build in
    let sides : List SideFileValue = c.self.inside.sides.items in
    let old : SideFileValue = c.index_mut-side.result.now in
    let same : c.in_ok-build_with.field-0.now ≡ b =
    same_Some c.in_ok-build_with.field-0.now b
    (sym c.in_ok-build_with.ensures.ok ∙ ap (λ (l : LiveValue). l.state.build) (sym c.self.view_is) ∙ c.in-Some.is) in
    let less : c.args.index < length b.specs = subst (λ (x : BuildState). c.args.index < length x.specs) same c.in_ok-build_with.ensures.there in
    let follows : IsBuildOf heap.schema heap.log b = subst (BuildFollows heap.schema heap.log) c.in-Some.is c.self.invariant.1 in
    let few = follows.few_indexes in
    let eight = eight_sides _ _ _ sides c.self.invariant.5 in
    let fed = c.feed-count.ensures in
    record {
      follows = follows;
      less = less;
      there = at_index sides c.args.index old c.index_mut-side.ensures.value (omega (arith, less, few, eight));
      have = subst (λ o. SidesFollow heap.log o sides) c.in-Some.is c.self.invariant.2;
      feeds = fed.fed;
      few = omega (arith, fed.most);
      all = fed.all;
      kept = c.laws.ensures;
    }

pub note_fed-requires-clause-countable : goal.note_fed-requires-clause-countable
note_fed-requires-clause-countable g c = countable (fed_from g (goal.at.note_fed-requires-clause-countable g c).After-laws)

pub invariant_of-self : goal.invariant_of-self
invariant_of-self g c =
    let it = fed_from g (goal.at.invariant_of-self g c).After-laws in
    let inside = c.self.inside in
    let heap : HeapState = inside.heap.state in
    let b : BuildState = c.in-Some.build in
    let sides : List SideFileValue = inside.sides.items in
    let old : SideFileValue = c.index_mut-side.result.now in
    let new : SideFileValue = c.feed-count.new.self in
    let put : HasPut heap.schema heap.log inside.builds b (all_sent inside.pages.items) =
    subst (λ (o : Option BuildState). PagesFollow heap.schema heap.log inside.builds o (all_sent inside.pages.items)) c.in-Some.is c.self.invariant.3 in (
      c.self.invariant.0,
      subst (IsBuildOf heap.schema heap.log) (sym c.note_fed.ensures) (follows_fed it),
      subst (λ (x : BuildState). HaveEntries heap.log x (set sides c.args.index new)) (sym c.note_fed.ensures) (have_fed it),
      subst (λ (x : BuildState). HasPut heap.schema heap.log inside.builds x (all_sent inside.pages.items)) (sym c.note_fed.ensures)
          (record { number = put.number; put = put.put }),
      c.self.invariant.4,
      put_ends_stay _ _ _ sides c.args.index old new c.self.invariant.5 c.index_mut-side.ensures.value it.feeds.ring,
      sent_of_builds it inside.builds put.number c.self.invariant.6,
    )

pub returns-clause-fed : goal.returns-clause-fed
returns-clause-fed g c =
    let it = fed_from g (goal.at.returns-clause-fed g c).After-laws in
    let spec = its_spec it in
    let inside = c.self.inside in
    let heap : HeapState = inside.heap.state in
    let b : BuildState = c.in-Some.build in
    let sides : List SideFileValue = inside.sides.items in
    let old : SideFileValue = c.index_mut-side.result.now in
    let new : SideFileValue = c.feed-count.new.self in
    let count : ℕ = c.feed-count.result in
    let fed = c.feed-count.ensures in
    let unfed_is : unfed b heap.log c.args.index (slice_get b.specs c.args.index) ≡ length old.left = left_is it in
    let most_is : min c.args.most (min 256 (unfed b heap.log c.args.index (slice_get b.specs c.args.index))) ≡ feed_most c.args.most old =
    ap (λ n. min c.args.most (min 256 n)) unfed_is in
    let Fed : ℕ → Type 0 = λ n.
    (count ≤ n) × (n ≤ old.end.free → count ≡ n) × (n + length old.end.sent ≤ 256 → count ≡ n) × (count < n → new.end.free ≡ 0) in
    let all : Fed (min c.args.most (min 256 (unfed b heap.log c.args.index (slice_get b.specs c.args.index)))) =
    subst Fed (sym most_is) (fed.most, fed.exact, λ small. fed.first (omega (arith, small, c.laws.ensures.capacity, fed.fed.capacity)), fed.stops) in
    let after : LiveValue = record {
      state = record { heap = heap; ready = indexes_of inside.ready.indexes; builds = inside.builds; build = Some c.note_fed.new.self };
      pages = inside.pages.items;
      sides = put_ends (set sides c.args.index new);
    } in
    subst (λ (l : LiveValue). HasFed c.args.index c.args.most l count after) c.self.view_is (record {
      build = b;
      runs = c.in-Some.is;
      within = all.0;
      put = old.end;
      there = map_at (λ (s : SideFileValue). s.end) sides c.args.index old it.there;
      exact = all.1;
      first = all.2;
      after = new.end;
      free = fed.fed.free;
      stops = all.3;
      ring = fed.fed.ring;
      capacity = fed.fed.capacity;
      sent = λ s at.
          let own : spec.0 ≡ s = same_Some spec.0 s (sym spec.1 ∙ at) in
          let put : SideEntry → Entry = entry_of b.number in
          let es : List SideEntry = side_entries (scanning_of b spec.0) heap.log in
          fed.fed.sent ∙ ap (λ (l : List Entry). old.end.sent ++ take count l) (left_of heap.log b c.args.index spec.0 old (its it))
          ∙ ap (λ (l : List Entry). old.end.sent ++ l) (take-map put count (drop (fed_to b c.args.index) es))
          ∙ ap (λ (x : KeySpecValue). old.end.sent ++ next_entries b heap.log c.args.index x count) own;
      others = map-set (λ (s : SideFileValue). s.end) sides c.args.index new;
      left = ap (λ (x : BuildState). record { heap = heap; ready = indexes_of inside.ready.indexes; builds = inside.builds; build = Some x }) c.note_fed.ensures;
      pages = refl;
    })

pub returns-clause-works : goal.returns-clause-works
returns-clause-works g c = λ building works.
    let it = fed_from g (goal.at.returns-clause-works g c).After-laws in
    let inside = c.self.inside in
    let heap : HeapState = inside.heap.state in
    let sides : List SideFileValue = inside.sides.items in
    let before = subst (λ (l : LiveValue). StandsBeside l building) (sym c.self.view_is) works in
    record {
      work = subst (λ (x : BuildState). WorkMatches heap.schema heap.log (Some x) building.work) (sym c.note_fed.ensures)
          (work_follows it building.work (subst (λ (o : Option BuildState). WorkMatches heap.schema heap.log o building.work) c.in-Some.is before.work));
      workers =
          subst (λ (x : BuildState). WorkersFollow heap.schema inside.pages.items (put_ends (set sides c.args.index c.feed-count.new.self)) building (Some x) building.work)
          (sym c.note_fed.ensures)
          (workers_follow it inside.pages.items building building.work
          (subst (λ (o : Option BuildState). WorkersFollow heap.schema inside.pages.items (put_ends sides) building o building.work) c.in-Some.is before.workers));
    }

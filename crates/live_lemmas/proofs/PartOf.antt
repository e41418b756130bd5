-- Whether what stands beside a table is of the build that runs on it, and what looking at the side-files' rings for that leaves.
use Rattle.std.proofs.Common.{◌≡◌, ℕ, ◌-◌, ◌<◌, ◌≤◌, ◌^◌, List, ◌++◌, length, map, set, drop, get_or, Option, Some, None}
use Rattle.std.proofs.Common.{refl, sym, ap, ◌∙◌, subst, arith, length-append, eq-eqb, eqb-true, leb-true}
use Rattle.std.specs.Prelude.{IfSome, IsTrue, nat_eq, nat_le, ◌↔◌}
use Rattle.std.specs.List.{AllZip, slice_get}
use Rattle.std.proofs.Math.Seq.{drop-append_seam, map-set_same}
use Rattle.std.proofs.lemmas.Option.{same_Some, get_or_from_slice_get}
use Rattle.keybytes.specs.Keys.{KeySpecValue}
use Rattle.keybytes.specs.declared.kind.Kind.{Kind}
use Rattle.side_file.specs.Changes.{IsSideFile}
use Rattle.side_file.specs.Ends.{PutEnd, RingId}
use Rattle.side_file.specs.Kept.{last_ones}
use Rattle.side_file.specs.SideFileValue.{SideFileValue}
use Rattle.side_file.specs.declared.entry.Entry.{Entry}
use Rattle.side_file.specs.Ends.{PutEndLooked, TakeEnd}
use Rattle.page_workers.specs.declared.copied.Copied.{Copied}
use Rattle.build_events.specs.BuildSteps.{OnBuild}
use Rattle.build_events.specs.CoreState.{BuildState, LiveState}
use Rattle.build_events.specs.Workers.{fed_to}
use Rattle.table_scan.specs.SideFiles.{HasEntries, IsFed, SeesSide, SidesFollow, put_ends, side_rings, taken_rings}
use Rattle.table_scan.specs.TableBuilds.{BuildFollows, IsBuildOf}
use Rattle.table_scan.proofs.Feeding.{waiting_in_ring}
use Rattle.table_scan.proofs.LookedEnds.{all_looked_twice, all_unlooked, same_looked, one_looked as end_looked}
use Rattle.page_workers.proofs.Places.{at_index, below, map_at, same_at, there_is}
use Rattle.building.specs.BuildingValue.{BuildingValue, IndexValue, WorkValue}
use Rattle.building.specs.WorkOn.{AreFed, IsIndexFed, WorkersFollow}
use Rattle.live_lemmas.specs.Builds.{LiveValue, SeesSideAt, SideIsLooked, StandsBeside, core_state}
use Rattle.live_lemmas.specs.Switching.{IsFedAt, IsOfBuild, IsPartOf, SidesAreLooked, unseen_take}

-- an end that puts entries, but for the places that it has seen free
abbrev pub unseen_put : PutEnd Entry → PutEnd Entry
unseen_put end = record end { free = 0 }

-- both ends of side-files' rings are the same but for what they have seen, and nothing else changed: this can be taken back
pub record SidesAreSame (live : LiveValue) (building : BuildingValue) (new_live : LiveValue) (new_building : BuildingValue) : Type 0 where
  pub puts : map unseen_put new_live.sides ≡ map unseen_put live.sides
  pub takes : map unseen_take new_building.sides ≡ map unseen_take building.sides
  pub of_live : new_live ≡ record live { sides = new_live.sides }
  pub of_building : new_building ≡ record building { sides = new_building.sides }

pub sides_same :
    (live new_live : LiveValue) (building new : BuildingValue) → SidesAreLooked live building new_live new → SidesAreSame live building new_live new
sides_same live new_live building new looked = record {
  puts = same_looked unseen_put (λ old end one. rw (one.ring, one.capacity, one.sent) refl) live.sides new_live.sides looked.puts;
  takes = looked.takes;
  of_live = looked.of_live;
  of_building = looked.of_building;
}

take_unseen :
    (ends : List (TakeEnd Entry)) (index : ℕ) (old end : TakeEnd Entry) → slice_get ends index ≡ Some old → end.ring ≡ old.ring → end.received ≡ old.received
    → map unseen_take (set ends index end) ≡ map unseen_take ends
take_unseen ends index old end there ring received =
    map-set_same unseen_take ends index end old
    (rw (ring, received) (ap unseen_take (sym (get_or_from_slice_get ends index old old there))))

-- nothing was looked at yet
pub none_looked : (live : LiveValue) (building : BuildingValue) → SidesAreLooked live building live building
none_looked live building = record { puts = all_unlooked live.sides; takes = refl; of_live = refl; of_building = refl }

-- a look at one ring
pub one_looked :
    (index : ℕ) (live new_live : LiveValue) (building new : BuildingValue) → SideIsLooked index live building new_live new
    → SidesAreLooked live building new_live new
one_looked index live new_live building new looked = record {
  puts = subst (λ (l : LiveValue). AllZip PutEndLooked live.sides l.sides) (sym looked.puts)
      (end_looked live.sides live.sides index looked.old_put looked.put (all_unlooked live.sides)
      (sym (get_or_from_slice_get live.sides index looked.old_put looked.old_put looked.put_there)) looked.looked.put_end);
  takes = ap (λ (b : BuildingValue). map unseen_take b.sides) looked.ends
      ∙ take_unseen building.sides index looked.old_end looked.end looked.end_there looked.looked.ring looked.looked.received;
  of_live = looked.puts ∙ ap (λ (ps : List (PutEnd Entry)). record live { sides = ps }) (sym (ap (λ (l : LiveValue). l.sides) looked.puts));
  of_building = looked.ends ∙ ap (λ (es : List (TakeEnd Entry)). record building { sides = es }) (sym (ap (λ (b : BuildingValue). b.sides) looked.ends));
}

-- one look after the other
pub more_looked :
    (live mid_live new_live : LiveValue) (building mid new : BuildingValue) → SidesAreLooked live building mid_live mid
    → SidesAreLooked mid_live mid new_live new → SidesAreLooked live building new_live new
more_looked live mid_live new_live building mid new first next = record {
  puts = all_looked_twice live.sides mid_live.sides new_live.sides first.puts next.puts;
  takes = next.takes ∙ first.takes;
  of_live = next.of_live ∙ ap (λ (l : LiveValue). record l { sides = new_live.sides }) first.of_live;
  of_building = next.of_building ∙ ap (λ (b : BuildingValue). record b { sides = new.sides }) first.of_building;
}

-- taken back
pub looked_back :
    (live new_live : LiveValue) (building new : BuildingValue) → SidesAreSame live building new_live new → SidesAreSame new_live new live building
looked_back live new_live building new looked = record {
  puts = sym looked.puts;
  takes = sym looked.takes;
  of_live = ap (λ (l : LiveValue). record l { sides = live.sides }) (sym looked.of_live);
  of_building = ap (λ (b : BuildingValue). record b { sides = building.sides }) (sym looked.of_building);
}

-- what waits in a ring that was looked at is what waited
fed_unseen :
    (fed applied : ℕ) (put new_put : PutEnd Entry) (end new_end : TakeEnd Entry) → unseen_put put ≡ unseen_put new_put → unseen_take end ≡ unseen_take new_end
    → IsFed fed applied put end → IsFed fed applied new_put new_end
fed_unseen fed applied put new_put end new_end puts takes is =
    let ring : new_put.ring ≡ put.ring = sym (ap (λ (e : PutEnd Entry). e.ring) puts) in
    let sent : new_put.sent ≡ put.sent = sym (ap (λ (e : PutEnd Entry). e.sent) puts) in
    let taken : new_end.ring ≡ end.ring = sym (ap (λ (e : TakeEnd Entry). e.ring) takes) in
    let received : new_end.received ≡ end.received = sym (ap (λ (e : TakeEnd Entry). e.received) takes) in
    record {
      same_ring = ring ∙ is.same_ring ∙ sym taken;
      waiting = rw (received, sent) is.waiting;
      counted = is.counted;
      were_sent = rw sent is.were_sent;
      countable = is.countable;
    }

-- the same of an index, and of each
module _
    (b : BuildState) (indexes : List IndexValue) (puts new_puts : List (PutEnd Entry)) (ends new_ends : List (TakeEnd Entry))
    (same_puts : map unseen_put new_puts ≡ map unseen_put puts) (same_takes : map unseen_take new_ends ≡ map unseen_take ends) where
  index_unseen : (k : ℕ) → IsIndexFed b indexes puts ends k → IsIndexFed b indexes new_puts new_ends k
  index_unseen k fed index new_put new_end at put_at end_at =
      let put = same_at unseen_put puts new_puts k new_put (sym same_puts) put_at in
      let end = same_at unseen_take ends new_ends k new_end (sym same_takes) end_at in
      fed_unseen (fed_to b k) index.applied put.0 new_put end.0 new_end put.2 end.2 (fed index put.0 end.0 at put.1 end.1)

  all_unseen : AreFed b indexes puts ends → AreFed b indexes new_puts new_ends
  all_unseen fed k = index_unseen k (fed k)

module _ (live new_live : LiveValue) (building new : BuildingValue) (looked : SidesAreSame live building new_live new) where
  same_state : new_live.state ≡ live.state
  same_state = ap (λ (l : LiveValue). l.state) looked.of_live

  same_work : new.work ≡ building.work
  same_work = ap (λ (b : BuildingValue). b.work) looked.of_building

  same_workers : new.workers ≡ building.workers
  same_workers = ap (λ (b : BuildingValue). b.workers) looked.of_building

  -- callers see no difference
  pub state_sides_looked : core_state new_live new ≡ core_state live building
  state_sides_looked = ap (λ (l : LiveValue). core_state l new) looked.of_live ∙ ap (core_state live) looked.of_building

  -- it is of the build as before
  pub of_looked : IsOfBuild live building → IsOfBuild new_live new
  of_looked of = record {
    build = of.build;
    runs = ap (λ (s : LiveState). s.build) same_state ∙ of.runs;
    work = of.work;
    there = same_work ∙ of.there;
    number = of.number;
    specs = of.specs;
    many = of.many;
    workers = ap length same_workers ∙ of.workers;
  }

  -- with what waits
  pub part_looked : IsPartOf live building → IsPartOf new_live new
  unfolding of_looked
  part_looked part = record {
    of = of_looked part.of;
    fed = all_unseen part.of.build part.of.work.indexes live.sides new_live.sides building.sides new.sides looked.puts looked.takes part.fed;
  }

  -- and so it is of each index by itself
  pub fed_at_looked : (k : ℕ) → IsFedAt k live building → IsFedAt k new_live new
  fed_at_looked k fed = by_build live.state.build building.work refl refl fed where
    Fed : LiveValue → BuildingValue → BuildState → WorkValue → Type 0
    Fed l beside b w = IsIndexFed b w.indexes l.sides beside.sides k

    by_build :
        (o : Option BuildState) (work : Option WorkValue) → live.state.build ≡ o → building.work ≡ work → OnBuild o (λ b. IfSome work (Fed live building b))
        → IsFedAt k new_live new
    by_build None work build_is work_is is = absurd is
    by_build (Some b) None build_is work_is is =
        subst (λ (o : Option BuildState). OnBuild o (λ x. IfSome new.work (Fed new_live new x))) (sym (ap (λ (s : LiveState). s.build) same_state ∙ build_is))
        (subst (λ (o : Option WorkValue). IfSome o (Fed new_live new b)) (sym (same_work ∙ work_is)) tt)
    by_build (Some b) (Some w) build_is work_is is =
        subst (λ (o : Option BuildState). OnBuild o (λ x. IfSome new.work (Fed new_live new x))) (sym (ap (λ (s : LiveState). s.build) same_state ∙ build_is))
        (subst (λ (o : Option WorkValue). IfSome o (Fed new_live new b)) (sym (same_work ∙ work_is)) (index_unseen b w.indexes live.sides new_live.sides building.sides new.sides looked.puts looked.takes k is))

-- what works goes on
follow_sides :
    (kinds : List Kind) (pages : List (PutEnd Copied)) (puts new_puts : List (PutEnd Entry)) (building : BuildingValue) (new_ends : List (TakeEnd Entry))
    (build : Option BuildState) (work : Option WorkValue) → map unseen_put new_puts ≡ map unseen_put puts
    → map unseen_take new_ends ≡ map unseen_take building.sides
    → WorkersFollow kinds pages puts building build work → WorkersFollow kinds pages new_puts (record building { sides = new_ends }) build work
follow_sides kinds pages puts new_puts building new_ends None work same_puts same_takes follow = tt
follow_sides kinds pages puts new_puts building new_ends (Some b) None same_puts same_takes follow = tt
follow_sides kinds pages puts new_puts building new_ends (Some b) (Some w) same_puts same_takes follow = record {
  fed = all_unseen b w.indexes puts new_puts building.sides new_ends same_puts same_takes follow.fed;
  given = follow.given;
  many = follow.many;
  taking = follow.taking;
  lent = follow.lent;
  drained = follow.drained;
  columns = follow.columns;
}

pub works_sides_looked :
    (live new_live : LiveValue) (building new : BuildingValue) → SidesAreSame live building new_live new → StandsBeside live building → StandsBeside new_live new
works_sides_looked live new_live building new looked works =
    subst (λ (l : LiveValue). StandsBeside l new) (sym looked.of_live)
    (subst (StandsBeside (record live { sides = new_live.sides })) (sym looked.of_building) (record {
      work = works.work;
      workers = follow_sides live.state.heap.schema live.pages live.sides new_live.sides building new.sides live.state.build building.work
          looked.puts looked.takes works.workers;
    }))

-- what holds of each entry of an index of the build
module _ (live : LiveValue) (building : BuildingValue) (of : IsOfBuild live building) (k : ℕ) where
  abbrev Waits : BuildState → WorkValue → Type 0
  Waits b w = IsIndexFed b w.indexes live.sides building.sides k

  pub at_from : Waits of.build of.work → IsFedAt k live building
  at_from waits =
      subst (λ (o : Option BuildState). OnBuild o (λ b. IfSome building.work (Waits b))) (sym of.runs)
      (subst (λ (o : Option WorkValue). IfSome o (Waits of.build)) (sym of.there) waits)

  pub at_to : IsFedAt k live building → Waits of.build of.work
  at_to fed =
      subst (λ (o : Option WorkValue). IfSome o (Waits of.build)) of.there
      (subst (λ (o : Option BuildState). OnBuild o (λ b. IfSome building.work (Waits b))) of.runs fed)

-- it is part of the build where that holds of each of its indexes
pub part_from :
    (live : LiveValue) (building : BuildingValue) (b : BuildState) → live.state.build ≡ Some b → IsOfBuild live building
    → ((k : ℕ) → k < length b.specs → IsFedAt k live building) → IsPartOf live building
part_from live building b runs of each = record {
  of = of;
  fed = λ k index put end at put_at end_at.
      let less = below of.work.indexes k index at in
      let same = ap (λ (x : BuildState). length x.specs) (same_Some of.build b (sym of.runs ∙ runs)) in
      at_to live building of k (each k (omega (arith, less, of.many, same))) index put end at put_at end_at;
}

-- and it holds of each index of what is part of the build
pub fed_of_part : (live : LiveValue) (building : BuildingValue) (k : ℕ) → IsPartOf live building → IsFedAt k live building
fed_of_part live building k part = at_from live building part.of k (part.fed k)

-- from what is seen to wait to what was fed and not applied
pub fed_from :
    (fed applied waiting : ℕ) (put : PutEnd Entry) (end : TakeEnd Entry) → put.ring ≡ end.ring → SeesSide waiting put end → fed ≤ length put.sent → fed < 2 ^ 64
    → applied ≤ fed → waiting ≡ fed - applied → IsFed fed applied put end
fed_from fed applied waiting put end ring sees sent countable few counted = record {
  same_ring = ring;
  waiting =
      ap (λ (es : List Entry). end.received ++ es)
      (last_known end.received end.known put.sent (fed - applied) sees.in_order (sym counted ∙ sees.counted))
      ∙ sees.in_order;
  counted = few;
  were_sent = sent;
  countable = countable;
} where
  last_known :
      (received known all : List Entry) (n : ℕ) → received ++ known ≡ all → n ≡ length known → last_ones n all ≡ known
  last_known received known all n is many =
      let place : length (received ++ known) - n ≡ length received = omega (arith, length-append received known, many) in
      subst (λ (xs : List Entry). last_ones n xs ≡ known) is (ap (λ i. drop i (received ++ known)) place ∙ drop-append_seam received known)

-- what is seen to wait in the ring of an index, and what was fed and applied
module _
    (live : LiveValue) (building : BuildingValue) (of : IsOfBuild live building) (index waiting fed applied : ℕ) (sides : List SideFileValue)
    (side : SideFileValue) (w : WorkValue) (held : building.work ≡ Some w) (below_specs : IfSome live.state.build (λ b. index < length b.specs))
    (follows : BuildFollows live.state.heap.schema live.state.heap.log live.state.build) (has : SidesFollow live.state.heap.log live.state.build sides)
    (puts : live.sides ≡ put_ends sides) (rings : side_rings live.sides ≡ taken_rings building.sides) (eight : length sides ≡ 8)
    (at : side ≡ get_or sides index side) (kept : IsSideFile side) (sees : SeesSideAt index waiting live building) (fed_is : fed ≡ length side.fed)
    (applied_is : (it : IndexValue) → slice_get w.indexes index ≡ Some it → applied ≡ it.applied) where
  abbrev b : BuildState
  b = of.build

  same_work_is : w ≡ of.work
  same_work_is = same_Some w of.work (sym held ∙ of.there)

  less : index < length b.specs
  less = subst (λ (o : Option BuildState). IfSome o (λ x. index < length x.specs)) of.runs below_specs

  build_of : IsBuildOf live.state.heap.schema live.state.heap.log b
  build_of = subst (BuildFollows live.state.heap.schema live.state.heap.log) of.runs follows

  there : slice_get sides index ≡ Some side
  there = at_index sides index side at (omega (arith, less, build_of.few_indexes, eight))

  -- its end of the ring is the side-file's
  its_put : sees.put ≡ side.end
  its_put = same_Some sees.put side.end
      (sym sees.put_there ∙ ap (λ (ps : List (PutEnd Entry)). slice_get ps index) puts ∙ map_at (λ (s : SideFileValue). s.end) sides index side there)

  one_ring : sees.put.ring ≡ sees.end.ring
  one_ring = same_Some sees.put.ring sees.end.ring
      (sym (map_at (λ (e : PutEnd Entry). e.ring) live.sides index sees.put sees.put_there)
      ∙ ap (λ (rs : List RingId). slice_get rs index) rings
      ∙ map_at (λ (e : TakeEnd Entry). e.ring) building.sides index sees.end sees.end_there)

  entries : (spec : KeySpecValue) × HasEntries live.state.heap.log b index spec side
  entries =
      let spec = there_is b.specs index less in
      (spec.0, (subst (λ (o : Option BuildState). SidesFollow live.state.heap.log o sides) of.runs has) index spec.0 side spec.1 there)

  counted : fed_to b index ≡ fed
  counted = entries.1.count ∙ sym fed_is

  its_applied : (it : IndexValue) → slice_get of.work.indexes index ≡ Some it → applied ≡ it.applied
  its_applied it is = applied_is it (ap (λ (x : WorkValue). slice_get x.indexes index) same_work_is ∙ is)

  pub waiting_fed : applied ≤ fed → waiting ≡ fed - applied → IsFedAt index live building
  waiting_fed few many = at_from live building of index (λ it put end is put_at end_at.
      let put_is : put ≡ sees.put = same_Some put sees.put (sym put_at ∙ sees.put_there) in
      let end_is : end ≡ sees.end = same_Some end sees.end (sym end_at ∙ sees.end_there) in
      let applied_same = its_applied it is in
      let sent = ap (λ (e : PutEnd Entry). length e.sent) its_put in
      rw (put_is, end_is) (fed_from (fed_to b index) it.applied waiting sees.put sees.end one_ring sees.sees
      (omega (arith, counted, fed_is, kept.fed_was_sent, sent)) (omega (arith, counted, fed_is, kept.few)) (omega (arith, counted, applied_same, few))
      (omega (arith, counted, applied_same, many))))

  pub fed_waiting : IsFedAt index live building → (applied ≤ fed) × (waiting ≡ fed - applied)
  fed_waiting is =
      let it = there_is of.work.indexes index (omega (arith, less, of.many)) in
      let now = at_to live building of index is it.0 sees.put sees.end it.1 sees.put_there sees.end_there in
      let applied_same = its_applied it.0 it.1 in
      let many = (waiting_in_ring (fed_to b index) it.0.applied waiting sees.put sees.end now sees.sees).1 in
      (omega (arith, counted, applied_same, now.counted), omega (arith, counted, applied_same, many))

  -- what a test of both tells
  pub tests_tell :
      (applied ≤ fed → IsTrue (nat_eq waiting (fed - applied)) ↔ IsFedAt index live building)
      × (fed < applied → IsTrue (nat_le applied fed) ↔ IsFedAt index live building)
  tests_tell = (
    λ few. (λ yes. waiting_fed few (eqb-true waiting (fed - applied) yes), λ is. eq-eqb waiting (fed - applied) (fed_waiting is).1),
    λ more. (λ yes. absurd (let few = leb-true applied fed yes in omega (arith, few, more)), λ is. absurd (let few = (fed_waiting is).0 in omega (arith, few, more))),
  )

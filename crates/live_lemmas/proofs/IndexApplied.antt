-- What entries that are applied leave of the index of a build, and of its work.
use Rattle.std.proofs.Common.{◌≡◌, ℕ, zero, suc, zero-add, ◌+◌, ◌-◌, ◌<◌, ◌≤◌, List, [], ◌∷◌, ◌++◌, length, map, set, take, drop, append_assoc, Some, None, refl, sym, ap, ap₂, ◌∙◌, inl}
use Rattle.std.proofs.Common.{inr}
use Rattle.std.proofs.Common.{subst, arith, take-add, take-take, take-append-drop, drop-drop}
use Rattle.std.specs.Prelude.{is_some}
use Rattle.std.specs.FinMap.{keys}
use Rattle.std.specs.FinSet.{FinSet}
use Rattle.std.proofs.lemmas.List.{take-map, drop-map, map-set}
use Rattle.std.proofs.lemmas.Option.{same_Some, get_or_from_slice_get}
use Rattle.keybytes.specs.Pairs.{pair_cmp, set_of}
use Rattle.side_file.specs.Entries.{entry_of}
use Rattle.side_file.specs.Kept.{last_ones}
use Rattle.side_file.specs.declared.entry.Entry.{Entry}
use Rattle.side_file.specs.declared.op.Op.TheVariants.{Insert}
use Rattle.visibility.specs.Applied.{apply_entries}
use Rattle.visibility.specs.SideEntries.{SideEntry, delete, insert}
use Rattle.visibility.proofs.Changes.{apply-append}
use Rattle.catch_up.specs.Built.{told_to}
use Rattle.catch_up.proofs.Telling.{told_entries}
use Rattle.live_lemmas.specs.Builds.{LiveValue, IsRunning, StandsBeside}
use Rattle.building.specs.BuildingValue.{BuildingValue, WorkValue, IndexValue, with_index, with_pairs, is_unique, work_state, index_state}
use Rattle.building.specs.WorkOn.{IsCaughtUpTo, IsIndexOn, AreFed}
use Rattle.live_lemmas.specs.Builds.{core_state}
use Rattle.side_file.specs.Ends.{TakeEnd}
use Rattle.catch_up.specs.Built.{BuiltValue}
use Rattle.keybytes.specs.Keys.{KeySpecValue}
use Rattle.side_file.specs.Ends.{PutEnd}
use Rattle.std.specs.List.{slice_get}
use Rattle.page_workers.proofs.Places.{at_map, at_set, set_there, set_elsewhere, below, map_at}
use Rattle.building.proofs.Unloaded.{open_fewer, unloaded_before}
use Rattle.building.proofs.Works.{set_work_on}
use Rattle.build_events.specs.CoreState.{BuildState, IndexState, WorkState, scanning_of}
use Rattle.build_events.specs.Scanning.{Scanning, scanned_pairs}
use Rattle.build_events.specs.SideEntries.{side_entries}
use Rattle.table_scan.specs.SideFiles.{IsFed, AreFedEntries, SeesSide}
use Rattle.build_events.specs.BuildSteps.{MayTakeMemory, PutsIn, after_apply}
use Rattle.build_events.specs.Workers.{fed_to, in_ring, index_at}
use Rattle.building.specs.Working.{IsTakingEntries, CanApply, CountsNoMore, HasApplied, MayTakeMemoryFor}
use Rattle.table_scan.proofs.Feeding.{waiting_in_ring}
use Rattle.live_lemmas.proofs.Refusals.{state_of, state_is, works_with}
use Rattle.keybytes.proofs.PairSets.{set_of-keys}
use Rattle.building.proofs.Applying.{same_taking}

-- the next of the first n
next_of_first :
    {X : Type 0} (a c n : ℕ) (xs : List X) → a + c ≤ n → take (a + c) xs ≡ take a xs ++ take c (drop a (take n xs))
next_of_first a c n xs few =
    sym (take-take (a + c) n xs few) ∙ take-add a c (take n xs)
    ∙ ap (λ ys. ys ++ take c (drop a (take n xs))) (take-take a n xs (omega (arith, few)))

-- of the last n, all but the first k are the last of all
last_dropped : {X : Type 0} (n k : ℕ) (xs : List X) → k ≤ n → n ≤ length xs → drop k (last_ones n xs) ≡ last_ones (n - k) xs
last_dropped n k xs few there =
    drop-drop k (length xs - n) xs ∙ ap (λ i. drop i xs) (let sum : (length xs - n) + k ≡ length xs - (n - k) = omega (arith, few, there) in sum)

-- what is behind the first n is so of all
behind : {X : Type 0} (n : ℕ) (xs : List X) (k : ℕ) (x : X) → slice_get (drop n xs) k ≡ Some x → slice_get xs (n + k) ≡ Some x
behind zero xs k x at = ap (slice_get xs) (zero-add k) ∙ at
behind (suc n) [] k x at = absurd (cc)
behind (suc n) (y ∷ ys) k x at = let next : suc n + k ≡ suc (n + k) = omega arith in ap (slice_get (y ∷ ys)) next ∙ behind n ys k x at

-- what is among the first m is so of all
among_first : {X : Type 0} (m : ℕ) (xs : List X) (k : ℕ) (x : X) → slice_get (take m xs) k ≡ Some x → slice_get xs k ≡ Some x
among_first zero xs k x at = absurd (cc)
among_first (suc m) [] k x at = absurd (cc)
among_first (suc m) (y ∷ ys) zero x at = at
among_first (suc m) (y ∷ ys) (suc k) x at = among_first m ys k x at

-- an entry that is put in a ring as an insert puts a pair in
puts_in : (build : ℕ) (entry : SideEntry) → (entry_of build entry).op ≡ Insert → PutsIn entry
puts_in build (delete pair) is = absurd (cc)
puts_in build (insert pair) is = (pair, refl)

-- a running build that isn't spoiled, with one of its indexes: its pairs are in order, and both ends of its ring were looked at
pub record AppliesNext (index waiting : ℕ) (live : LiveValue) (building : BuildingValue) : Type 0 where
  pub build : BuildState
  pub work : WorkValue
  pub run : IsRunning live building build work
  pub fine : work.spoiled ≡ None
  pub spec : KeySpecValue
  pub spec_at : slice_get build.specs index ≡ Some spec
  pub it : IndexValue
  pub it_at : slice_get work.indexes index ≡ Some it
  pub built : BuiltValue
  pub loaded : it.built ≡ Some built
  pub put : PutEnd Entry
  pub put_at : slice_get live.sides index ≡ Some put
  pub end : TakeEnd Entry
  pub end_at : slice_get building.sides index ≡ Some end
  pub fed : AreFedEntries live.state.heap.log build index spec put
  pub sees : SeesSide waiting put end

module _ (index waiting : ℕ) (live : LiveValue) (building : BuildingValue) (t : AppliesNext index waiting live building) where
  abbrev here : Scanning
  here = scanning_of t.build t.spec

  abbrev entries : List SideEntry
  entries = side_entries here live.state.heap.log

  abbrev scanned : FinSet pair_cmp
  scanned = set_of (scanned_pairs here live.state.heap.log)

  abbrev as_put : SideEntry → Entry
  as_put = entry_of t.build.number

  abbrev fed_now : ℕ
  fed_now = fed_to t.build index

  on : IsIndexOn live.state.heap.log t.build t.spec t.it
  on = t.run.on.indexes index t.spec t.it t.spec_at t.it_at

  ring : IsFed fed_now t.it.applied t.put t.end
  ring = t.run.at_work.fed index t.it t.put t.end t.it_at t.put_at t.end_at

  seen_is : (t.end.known ≡ last_ones (fed_now - t.it.applied) t.put.sent) × (waiting ≡ fed_now - t.it.applied)
  seen_is = waiting_in_ring fed_now t.it.applied waiting t.put t.end ring t.sees

  its_spec : is_unique (slice_get t.work.specs index) ≡ t.spec.unique
  its_spec = ap is_unique (ap (λ specs. slice_get specs index) (sym t.run.on.specs) ∙ t.spec_at)

  taking : IsTakingEntries index building
  taking = record {
    work = t.work;
    runs = t.run.work_is;
    it = t.it;
    there = t.it_at;
    built = t.built;
    loaded = t.loaded;
    end = t.end;
    at = t.end_at;
  }

  -- the index, as callers see it
  pub index_seen : index_at (work_state building.workers building.work).indexes index ≡ index_state t.it
  index_seen =
      ap (λ (s : WorkState). index_at s.indexes index) (state_is building t.work t.run.work_is t.fine)
      ∙ get_or_from_slice_get (map index_state t.work.indexes) index (index_state t.it) _ (map_at index_state t.work.indexes index t.it t.it_at)

  -- what waits, as callers see it
  pub ring_is : waiting ≡ in_ring t.build (work_state building.workers building.work) index
  ring_is = seen_is.1 ∙ ap (λ (i : IndexState). fed_now - i.applied) (sym index_seen)

  -- it can be applied
  pub can_apply : (count : ℕ) → count ≤ waiting → CanApply index count building
  unfolding taking
  can_apply count few = record {
    taking = taking;
    fine = t.fine;
    seen = omega (arith, few, t.sees.counted);
  }

  -- the next that waits may take memory for what it is in the side-file
  pub may_take :
      (count : ℕ) → count < waiting → MayTakeMemoryFor index count building
      → MayTakeMemory t.build live.state.heap.log index ((index_at (work_state building.workers building.work).indexes index).applied + count)
  unfolding taking
  may_take count less needed =
      let same = same_taking index building needed.taking taking in
      let known_is : t.end.known ≡ map as_put (drop t.it.applied (take fed_now entries)) =
      seen_is.0
      ∙ sym (last_dropped fed_now t.it.applied t.put.sent ring.counted ring.were_sent)
      ∙ ap (drop t.it.applied) t.fed.entries
      ∙ drop-map as_put t.it.applied (take fed_now entries) in
      let at : slice_get (map as_put (drop t.it.applied (take fed_now entries))) count ≡ Some needed.next =
      ap (λ (es : List Entry). slice_get es count) (sym known_is) ∙ ap (λ (e : TakeEnd Entry). slice_get e.known count) (sym same.3) ∙ needed.there in
      let it = at_map as_put (drop t.it.applied (take fed_now entries)) count needed.next at in
      let its_place : slice_get entries (t.it.applied + count) ≡ Some it.0 =
      among_first fed_now entries (t.it.applied + count) it.0 (behind t.it.applied (take fed_now entries) count it.0 it.1) in
      let seen_applied : (index_at (work_state building.workers building.work).indexes index).applied ≡ t.it.applied =
      ap (λ (i : IndexState). i.applied) index_seen in
      let unique : t.built.unique ≡ t.spec.unique = on.of_spec t.built t.loaded in
      record {
        spec = t.spec;
        of_build = t.spec_at;
        entry = it.0;
        next = ap (λ (n : ℕ). slice_get entries (n + count)) seen_applied ∙ its_place;
        needs = elim needed.needs.1 [
          | inl puts ↦ inl (puts_in t.build.number it.0 (ap (λ (e : Entry). e.op) it.2 ∙ puts))
          | inr tallied ↦ inr (sym unique ∙ ap (λ (x : BuiltValue). x.unique) (sym same.2) ∙ tallied)
        ];
      }

  -- and it can be counted
  pub counts_more : (count : ℕ) → count < waiting → CountsNoMore index count building → ⊥
  unfolding taking
  counts_more count less none =
      let its = ap (λ (i : IndexValue). i.applied) (same_taking index building none.taking taking).1 in
      omega (arith, less, its, none.past, seen_is.1, ring.counted, ring.countable)

  module _ (new : BuildingValue) (count : ℕ) (few : count ≤ waiting) (done : HasApplied index building count new) where
    same : (done.taking.work ≡ t.work) × (done.taking.it ≡ t.it) × (done.taking.built ≡ t.built) × (done.taking.end ≡ t.end)
    unfolding taking
    same = same_taking index building done.taking taking

    within : t.it.applied + count ≤ fed_now
    within = omega (arith, few, seen_is.1, ring.counted)

    -- they are the next of the build's entries
    taken_are : take count t.end.known ≡ map as_put (take count (drop t.it.applied (take fed_now entries)))
    taken_are =
        ap (take count) (seen_is.0
        ∙ sym (last_dropped fed_now t.it.applied t.put.sent ring.counted ring.were_sent)
        ∙ ap (drop t.it.applied) t.fed.entries
        ∙ drop-map as_put t.it.applied (take fed_now entries))
        ∙ take-map as_put count (drop t.it.applied (take fed_now entries))

    told_are : told_to done.taking.built.build (take count done.taking.end.known) ≡ take count (drop t.it.applied (take fed_now entries))
    told_are =
        ap (λ (e : TakeEnd Entry). told_to done.taking.built.build (take count e.known)) same.3
        ∙ ap (λ n. told_to n (take count t.end.known)) (ap (λ (x : BuiltValue). x.build) same.2 ∙ on.of_build t.built t.loaded)
        ∙ ap (told_to t.build.number) taken_are
        ∙ told_entries t.build.number (take count (drop t.it.applied (take fed_now entries)))

    pairs_before : set_of done.taking.built.pairs ≡ apply_entries (take t.it.applied entries) scanned
    pairs_before =
        ap (λ (x : BuiltValue). set_of x.pairs) same.2 ∙ ap set_of (on.loaded t.built t.loaded)
        ∙ set_of-keys (apply_entries (take t.it.applied entries) scanned)

    caught_up : IsCaughtUpTo (t.it.applied + count) here live.state.heap.log done.pairs
    caught_up =
        done.ordered
        ∙ ap keys (done.applied
        ∙ ap (λ es. apply_entries es (set_of done.taking.built.pairs)) told_are
        ∙ ap (apply_entries (take count (drop t.it.applied (take fed_now entries)))) pairs_before
        ∙ sym (apply-append (take t.it.applied entries) (take count (drop t.it.applied (take fed_now entries))) scanned)
        ∙ ap (λ es. apply_entries es scanned) (sym (next_of_first t.it.applied count fed_now entries within)))

    abbrev after_it : IndexValue
    after_it = record { built = Some (with_pairs t.work index done.pairs); applied = t.it.applied + count }

    abbrev after : WorkValue
    after = with_index t.work index done.pairs (t.it.applied + count)

    abbrev left : BuildingValue
    left = record building { sides = set building.sides index done.end; work = Some after }

    left_is : new ≡ left
    left_is =
        done.left
        ∙ ap₂ (λ (w : WorkValue) (n : ℕ). record building { sides = set building.sides index done.end; work = Some (with_index w index done.pairs (n + count)) })
        same.0 (ap (λ (i : IndexValue). i.applied) same.1)

    after_on : IsIndexOn live.state.heap.log t.build t.spec after_it
    after_on = record {
      all = λ e. on.all (ap is_some t.loaded);
      none_before = λ e. absurd (cc);
      there = omega (arith, within, t.fed.there);
      loaded = λ built is. subst (IsCaughtUpTo (t.it.applied + count) here live.state.heap.log) (let pairs : done.pairs ≡ built.pairs = cc in pairs) caught_up;
      of_build = λ built is. let number : t.work.build ≡ built.build = cc in sym number ∙ t.run.on.number;
      of_spec = λ built is. let unique : is_unique (slice_get t.work.specs index) ≡ built.unique = cc in sym unique ∙ its_spec;
    }

    in_order : done.end.received ++ last_ones (fed_now - (t.it.applied + count)) t.put.sent ≡ t.put.sent
    in_order =
        let n : ℕ = fed_now - t.it.applied in
        let rest : last_ones (fed_now - (t.it.applied + count)) t.put.sent ≡ drop count t.end.known =
        ap (λ k. last_ones k t.put.sent) (let less : fed_now - (t.it.applied + count) ≡ n - count = omega arith in less)
        ∙ sym (last_dropped n count t.put.sent (omega (arith, within)) (omega (arith, ring.were_sent)))
        ∙ ap (drop count) (sym seen_is.0) in
        ap (λ es. done.end.received ++ es) rest
        ∙ ap (λ es. es ++ drop count t.end.known) (done.received ∙ ap (λ (e : TakeEnd Entry). e.received ++ take count e.known) same.3)
        ∙ append_assoc t.end.received (take count t.end.known) (drop count t.end.known)
        ∙ ap (λ es. t.end.received ++ es) (take-append-drop count t.end.known)
        ∙ t.sees.in_order

    ring_after : IsFed fed_now (t.it.applied + count) t.put done.end
    ring_after = record {
      same_ring = ring.same_ring ∙ sym (done.ring ∙ ap (λ (e : TakeEnd Entry). e.ring) same.3);
      waiting = in_order;
      counted = within;
      were_sent = ring.were_sent;
      countable = ring.countable;
    }

    fed_after : AreFed t.build after.indexes live.sides left.sides
    fed_after k i p e at there taken = elim (at_set t.work.indexes index after_it k i at) [
      | inl here_too ↦
          let its_put : p ≡ t.put = same_Some p t.put (sym there ∙ ap (slice_get live.sides) here_too.0 ∙ t.put_at) in
          let its_end : e ≡ done.end = set_there building.sides index done.end k e taken here_too.0 in
          rw (here_too.1, here_too.0, its_put, its_end) ring_after
      | inr other ↦ t.run.at_work.fed k i p e other.1 there (set_elsewhere building.sides index done.end k e taken other.0)
    ]

    -- all goes on
    pub works_applied : StandsBeside live new
    works_applied =
        subst (StandsBeside live) (sym left_is)
        (works_with live left t.build after (record {
          build_is = t.run.build_is;
          work_is = refl;
          follows = t.run.follows;
          on = set_work_on live.state.heap.schema live.state.heap.log t.build t.work index t.spec after_it t.run.on t.spec_at after_on;
          at_work = record {
            fed = fed_after;
            given = t.run.at_work.given;
            many = t.run.at_work.many;
            taking = λ f. t.run.at_work.taking t.fine;
            lent = λ f. t.run.at_work.lent t.fine;
            drained = λ f. t.run.at_work.drained t.fine;
            columns = λ f handed. open_fewer _ _ t.work.specs building.workers building.spools
                (unloaded_before t.work index (with_pairs t.work index done.pairs) (t.it.applied + count) (below t.work.indexes index t.it t.it_at))
                (t.run.at_work.columns t.fine handed);
          };
        }))

    -- and callers see how far the index is
    pub state_applied :
        core_state live new ≡ record (core_state live building) { work = after_apply (work_state building.workers building.work) index count }
    state_applied =
        let before : WorkState = state_of building t.work in
        let it : index_state after_it ≡ record (index_state t.it) { applied = t.it.applied + count } =
        ap (λ l. record { loaded = l; applied = t.it.applied + count }) (sym (ap is_some t.loaded)) in
        let old : index_at (map index_state t.work.indexes) index ≡ index_state t.it =
        get_or_from_slice_get (map index_state t.work.indexes) index (index_state t.it) _ (map_at index_state t.work.indexes index t.it t.it_at) in
        ap (core_state live) left_is
        ∙ ap (λ (s : WorkState). record (core_state live building) { work = s })
        (state_is left after refl t.fine
        ∙ ap (λ (is : List IndexState). record before { indexes = is })
        (map-set index_state t.work.indexes index after_it
        ∙ ap (set (map index_state t.work.indexes) index) (it ∙ sym (ap (λ (i : IndexState). record i { applied = i.applied + count }) old)))
        ∙ sym (ap (λ (s : WorkState). after_apply s index count) (state_is building t.work t.run.work_is t.fine)))

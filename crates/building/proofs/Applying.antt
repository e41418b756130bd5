-- Entries that are taken from the side-file's ring and applied to the index, one after another.
use Rattle.std.proofs.Common.{Result, Ok, Err, OnErr, ◌≡◌, ◌⊎◌, ℕ, zero, suc, sym, ap, ◌∙◌, ◌+◌, ◌<◌, ◌≤◌, true, List, [], ◌∷◌, ◌++◌, length, get_or, take, drop}
use Rattle.std.proofs.Common.{set, set-set, append_assoc, Option, Some, None, refl, ap₂, subst, arith, inl, inr, Bool, length-append, length-drop, take-add, drop-drop}
use Rattle.std.proofs.lemmas.Option.{same_Some}
use Rattle.building.specs.BuildingValue.{BuildingValue, WorkValue, IndexValue, with_index, with_pairs}
use Rattle.std.specs.List.{slice_get}
use Rattle.building.specs.Working.{IsTakingEntries, CanApply, HasApplied, CountsNoMore, HasSeenEntries, MayTakeMemoryFor, StopsApplying}
use Rattle.std.proofs.lemmas.List.{append-nil, nil_from_length, take-append-le, drop-append-le}
use Rattle.std.proofs.Math.Seq.{take-append_seam, drop-append_seam}
use Rattle.keybytes.specs.Pairs.{AreOrdered, set_of}
use Rattle.side_file.specs.declared.entry.Entry.{Entry}
use Rattle.visibility.specs.Applied.{apply_entries}
use Rattle.visibility.proofs.Changes.{apply-append}
use Rattle.catch_up.specs.Applying.{Applied, NextMayWant, Taken}
use Rattle.catch_up.specs.Built.{BuiltValue, MayWant, told_to}
use Rattle.catch_up.proofs.Telling.{told_to-append}
use Rattle.side_file.specs.Ends.{TakeEnd}
use Rattle.keybytes.specs.declared.pair.Pair.{Pair}
use Rattle.page_workers.specs.SpoolValue.{SpoolValue}
use Rattle.page_workers.specs.WorkerValue.{WorkerValue}
use Rattle.building.specs.Keeping.{KeepsWork}
use Rattle.building.proofs.AppliedKept.{applied_kept}
use Rattle.page_workers.proofs.Places.{at_index, below, here_set, set_same}
use Rattle.std.specs.Prelude.{is_some}
use Rattle.std.proofs.lemmas.Bool.{false≢true}

-- what holds anyway holds of a refusal
pub on_err : {T E : Type 0} (r : Result T E) (P : Type 0) → P → OnErr r P
on_err (Ok x) P p = tt
on_err (Err e) P p = p

-- whatever is told of one index is of the same
pub same_taking :
    (index : ℕ) (building : BuildingValue) (x y : IsTakingEntries index building) → (x.work ≡ y.work) × (x.it ≡ y.it) × (x.built ≡ y.built) × (x.end ≡ y.end)
same_taking index building x y =
    let work : x.work ≡ y.work = same_Some x.work y.work (sym x.runs ∙ y.runs) in
    let it : x.it ≡ y.it = same_Some x.it y.it (sym x.there ∙ ap (λ (w : WorkValue). slice_get w.indexes index) work ∙ y.there) in
    (work, it, same_Some x.built y.built (sym x.loaded ∙ ap (λ (i : IndexValue). i.built) it ∙ y.loaded), same_Some x.end y.end (sym x.at ∙ y.at))

-- the index that takes entries is in its place
pub its_place :
    (index : ℕ) (building seen : BuildingValue) (work : WorkValue) → seen ≡ building → seen.work ≡ Some work → (taking : IsTakingEntries index building)
    → slice_get work.indexes index ≡ Some taking.it
its_place index building seen work same runs taking =
    let its : taking.work ≡ work = same_Some taking.work work (sym taking.runs ∙ ap (λ (b : BuildingValue). b.work) (sym same) ∙ runs) in
    subst (λ (w : WorkValue). slice_get w.indexes index ≡ Some taking.it) its taking.there

-- the first n that were seen were taken
first_taken :
    (entries known new : List Entry) (more : List Entry) → known ++ more ≡ entries ++ new → length entries ≤ length known
    → (entries ≡ take (length entries) known) × (new ≡ drop (length entries) known ++ more)
first_taken entries known new more same few = (
  sym (take-append_seam entries new) ∙ ap (take (length entries)) (sym same) ∙ take-append-le (length entries) known more few,
  sym (drop-append_seam entries new) ∙ ap (drop (length entries)) (sym same) ∙ drop-append-le (length entries) known more few,
)

-- one was, where none would have left the ring empty
pub one_taken :
    (entries known new more : List Entry) → known ++ more ≡ entries ++ new → length entries ≤ 1 → 1 ≤ length known → (length entries < 1 → new ≡ [])
    → 1 ≡ length entries
one_taken [] known new more same few seen empty =
    let whole = length-append known more in
    let nothing : length (known ++ more) ≡ 0 = ap length (same ∙ empty (omega arith)) in
    absurd (omega (arith, whole, nothing, seen))
one_taken (x ∷ []) known new more same few seen empty = refl
one_taken (x ∷ y ∷ entries) known new more same few seen empty = absurd (omega (arith, few))

-- what comes first behind the first n
first_behind : {X : Type 0} (n : ℕ) (xs more : List X) (x : X) → n < length xs → slice_get (drop n xs ++ more) 0 ≡ Some x → slice_get xs n ≡ Some x
first_behind n [] more x less at = absurd (omega (arith, less))
first_behind zero (y ∷ ys) more x less at = at
first_behind (suc n) (y ∷ ys) more x less at = first_behind n ys more x (omega (arith, less)) at

-- the entry that the ring has next is the first that was seen in it
pub next_seen :
    (built after : BuiltValue) (ring ring_new : TakeEnd Entry) (entries : List Entry) → Taken entries ring ring_new → Applied entries built after
    → length entries < 1 → 1 ≤ length ring.known → NextMayWant after ring_new
    → (next : Entry) × (slice_get ring.known 0 ≡ Some next) × MayWant built next
next_seen built after ring ring_new entries taken applied few seen next =
    by_known ring.known refl seen where
      none : entries ≡ []
      none = nil_from_length entries (omega (arith, few))

      its : MayWant built next.0
      its = (next.2.0 ∙ applied.build, elim next.2.1 [ inl puts ↦ inl puts | inr unique ↦ inr (sym applied.unique ∙ unique) ])

      by_known : (known : List Entry) → ring.known ≡ known → 1 ≤ length known → (e : Entry) × (slice_get ring.known 0 ≡ Some e) × MayWant built e
      by_known [] is some = absurd (omega (arith, some))
      by_known (e ∷ es) is some =
          let same : e ∷ (es ++ taken.known.0) ≡ next.0 ∷ next.1.0 =
          ap (λ (ks : List Entry). ks ++ taken.known.0) (sym is) ∙ taken.known.1 ∙ ap (λ (xs : List Entry). xs ++ ring_new.known) none ∙ sym next.1.1 in
          let first : e ≡ next.0 = cc in
          (e, ap (λ (ks : List Entry). slice_get ks 0) is, subst (MayWant built) (sym first) its)

-- the index of a build with other pairs, and other entries applied
abbrev index_with : WorkValue → ℕ → List Pair → ℕ → IndexValue
index_with work index pairs applied = record { built = Some (with_pairs work index pairs); applied = applied }

-- so many entries were applied
pub has_applied :
    (index : ℕ) (old new : BuildingValue) (taking : IsTakingEntries index old) (ring ring_new : TakeEnd Entry) (entries : List Entry)
    (count : ℕ) (after : BuiltValue) → taking.built ≡ with_pairs taking.work index taking.built.pairs → taking.end ≡ ring → Taken entries ring ring_new → Applied entries taking.built after → AreOrdered after.pairs
    → count ≡ length entries → count ≤ length ring.known
    → new ≡ record old {
      sides = set old.sides index ring_new;
      work = Some (record taking.work { indexes = set taking.work.indexes index (record { built = Some after; applied = taking.it.applied + count }) });
    } → HasApplied index old count new
has_applied index old new taking ring ring_new entries count after own side taken applied ordered many few is =
    let prefix = taken.known in
    let first = first_taken entries ring.known ring_new.known prefix.0 prefix.1 (omega (arith, many, few)) in
    let entries_are : entries ≡ take count ring.known = first.0 ∙ ap (λ n. take n ring.known) (sym many) in
    record {
      taking = taking;
      own = own;
      pairs = after.pairs;
      applied = applied.pairs
          ∙ ap (λ es. apply_entries (told_to taking.built.build es) (set_of taking.built.pairs)) (entries_are ∙ ap (λ (e : TakeEnd Entry). take count e.known) (sym side));
      ordered = ordered;
      end = ring_new;
      ring = taken.ring ∙ ap (λ (e : TakeEnd Entry). e.ring) (sym side);
      received = taken.received ∙ ap (λ es. ring.received ++ es) entries_are
          ∙ ap (λ (e : TakeEnd Entry). e.received ++ take count e.known) (sym side);
      more = prefix.0;
      known = first.1 ∙ ap (λ n. drop n ring.known ++ prefix.0) (sym many)
          ∙ ap (λ (e : TakeEnd Entry). drop count e.known ++ prefix.0) (sym side);
      left = is ∙ ap₂ (λ (n : ℕ) (tallied : Bool). record old {
        sides = set old.sides index ring_new;
        work = Some (record taking.work {
          indexes = set taking.work.indexes index
              (record { built = Some (record { build = n; unique = tallied; pairs = after.pairs }); applied = taking.it.applied + count });
        });
      }) (applied.build ∙ ap (λ (b : BuiltValue). b.build) own) (applied.unique ∙ ap (λ (b : BuiltValue). b.unique) own);
    }

-- the same, where the index and the end of its ring were found in their places
module _
    (index : ℕ) (old seen : BuildingValue) (work held : WorkValue) (it : IndexValue) (built : BuiltValue) (applied : ℕ)
    (ends : List (TakeEnd Entry)) (ring : TakeEnd Entry) (same : seen ≡ old) (runs : seen.work ≡ Some work) (is : held ≡ work)
    (it_at : it ≡ get_or held.indexes index it) (it_is : record { built = Some built; applied = applied } ≡ it) (sides : seen.sides ≡ ends)
    (ring_at : ring ≡ get_or ends index ring) (taking : IsTakingEntries index old) where
  work_is : taking.work ≡ held
  work_is = same_Some taking.work held (sym taking.runs ∙ ap (λ (b : BuildingValue). b.work) (sym same) ∙ runs ∙ ap Some (sym is))

  index_is : taking.it ≡ it
  index_is =
      same_Some taking.it it
      (sym taking.there ∙ ap (λ (w : WorkValue). slice_get w.indexes index) work_is
      ∙ at_index held.indexes index it it_at (subst (λ (w : WorkValue). index < length w.indexes) work_is (below taking.work.indexes index taking.it taking.there)))

  its_sides : old.sides ≡ ends
  its_sides = ap (λ (b : BuildingValue). b.sides) (sym same) ∙ sides

  pub end_is : taking.end ≡ ring
  end_is =
      let less : index < length ends =
      subst (λ (es : List (TakeEnd Entry)). index < length es) its_sides (below old.sides index taking.end taking.at) in
      same_Some taking.end ring
      (sym taking.at ∙ ap (λ (es : List (TakeEnd Entry)). slice_get es index) its_sides
      ∙ at_index ends index ring ring_at less)

  built_is : taking.built ≡ built
  built_is = same_Some taking.built built (sym taking.loaded ∙ ap (λ (i : IndexValue). i.built) (index_is ∙ sym it_is))

  pub applied_is : taking.it.applied ≡ applied
  applied_is = ap (λ (i : IndexValue). i.applied) (index_is ∙ sym it_is)

  pub applied_next :
      taking.built ≡ with_pairs taking.work index taking.built.pairs → (ring_new : TakeEnd Entry) (entries : List Entry) (count sum : ℕ) (after : BuiltValue) → Taken entries ring ring_new → Applied entries built after
      → AreOrdered after.pairs → count ≡ length entries → count ≤ length ring.known → sum ≡ applied + count
      → HasApplied index old count (record seen {
        sides = set ends index ring_new;
        work = Some (record held { indexes = set held.indexes index (record { built = Some after; applied = sum }) });
      })
  applied_next own ring_new entries count sum after taken done ordered many few total =
      has_applied index old _ taking ring ring_new entries count after own end_is taken (subst (λ (b : BuiltValue). Applied entries b after) (sym built_is) done) ordered many few
      (ap (λ (b : BuildingValue). with_both b (set ends index ring_new) held sum) same
      ∙ ap (λ (es : List (TakeEnd Entry)). with_both old es held sum)
      (ap (λ (es : List (TakeEnd Entry)). set es index ring_new) (sym its_sides))
      ∙ ap (λ (v : WorkValue). with_both old (set old.sides index ring_new) v sum) (sym work_is)
      ∙ ap (with_both old (set old.sides index ring_new) taking.work) (total ∙ ap (λ n. n + count) (sym applied_is))) where
        with_both : BuildingValue → List (TakeEnd Entry) → WorkValue → ℕ → BuildingValue
        with_both b es v n = record b { sides = es; work = Some (record v { indexes = set v.indexes index (record { built = Some after; applied = n }) }) }

  -- where it wanted memory, the next that is seen may take some
  pub needed_next :
      (ring_new : TakeEnd Entry) (entries : List Entry) (after : BuiltValue) → Taken entries ring ring_new → Applied entries built after
      → length entries < 1 → 1 ≤ length taking.end.known → NextMayWant after ring_new → MayTakeMemoryFor index 0 old
  needed_next ring_new entries after taken done few seen wants =
      let next = next_seen built after ring ring_new entries taken done few (subst (λ (e : TakeEnd Entry). 1 ≤ length e.known) end_is seen) wants in
      record {
        taking = taking;
        next = next.0;
        there = ap (λ (e : TakeEnd Entry). slice_get e.known 0) end_is ∙ next.1;
        needs = subst (λ (b : BuiltValue). MayWant b next.0) (sym built_is) next.2;
      }

  -- and the work keeps what it keeps
  pub kept_next :
      (workers : List WorkerValue) (spools : List SpoolValue) (ring_new : TakeEnd Entry) (entries : List Entry) (sum : ℕ) (after : BuiltValue)
      → Taken entries ring ring_new → Applied entries built after → AreOrdered after.pairs → KeepsWork workers ends spools seen.work
      → KeepsWork workers (set ends index ring_new) spools
      (Some (record held { indexes = set held.indexes index (record { built = Some after; applied = sum }) }))
  kept_next workers spools ring_new entries sum after taken done ordered kept =
      let there : slice_get held.indexes index ≡ Some it =
      at_index held.indexes index it it_at (subst (λ (w : WorkValue). index < length w.indexes) work_is (below taking.work.indexes index taking.it taking.there)) in
      let less : index < length ends =
      subst (λ (es : List (TakeEnd Entry)). index < length es) its_sides (below old.sides index taking.end taking.at) in
      let its_end : slice_get ends index ≡ Some ring =
      at_index ends index ring ring_at less in
      applied_kept workers ends spools held index it there built after (ap (λ (i : IndexValue). i.built) (sym it_is)) ring ring_new
      its_end entries taken.received done ordered sum
      (subst (λ (o : Option WorkValue). KeepsWork workers ends spools o) (runs ∙ ap Some (sym is)) kept)

module _ (index : ℕ) (old mid : BuildingValue) (m : ℕ) (first : HasApplied index old m mid) where
  -- the index as these entries leave it
  abbrev its_work : WorkValue
  its_work = with_index first.taking.work index first.pairs (first.taking.it.applied + m)

  abbrev its_built : BuiltValue
  its_built = with_pairs first.taking.work index first.pairs

  mid_work : mid.work ≡ Some its_work
  mid_work = ap (λ (b : BuildingValue). b.work) first.left

  mid_sides : mid.sides ≡ set old.sides index first.end
  mid_sides = ap (λ (b : BuildingValue). b.sides) first.left

  its_index : slice_get its_work.indexes index ≡ Some (index_with first.taking.work index first.pairs (first.taking.it.applied + m))
  its_index =
      here_set first.taking.work.indexes index (index_with first.taking.work index first.pairs (first.taking.it.applied + m))
      (below first.taking.work.indexes index first.taking.it first.taking.there)

  its_end : slice_get mid.sides index ≡ Some first.end
  its_end = ap (λ (ends : List (TakeEnd Entry)). slice_get ends index) mid_sides ∙ here_set old.sides index first.end (below old.sides index first.taking.end first.taking.at)

  -- from which more can be taken
  pub taking_more : IsTakingEntries index mid
  taking_more = record {
    work = its_work;
    runs = mid_work;
    it = index_with first.taking.work index first.pairs (first.taking.it.applied + m);
    there = its_index;
    built = its_built;
    loaded = refl;
    end = first.end;
    at = its_end;
  }

  -- some entries after others
  pub applied_more : (new : BuildingValue) (n : ℕ) → m + n ≤ length first.taking.end.known → HasApplied index mid n new → HasApplied index old (m + n) new
  applied_more new n few next =
      let work_is : next.taking.work ≡ its_work = same_Some next.taking.work its_work (sym next.taking.runs ∙ mid_work) in
      let it_is : next.taking.it ≡ index_with first.taking.work index first.pairs (first.taking.it.applied + m) =
      same_Some next.taking.it _ (sym next.taking.there ∙ ap (λ (w : WorkValue). slice_get w.indexes index) work_is ∙ its_index) in
      let built_is : next.taking.built ≡ its_built = same_Some next.taking.built its_built (sym next.taking.loaded ∙ ap (λ (i : IndexValue). i.built) it_is) in
      let end_is : next.taking.end ≡ first.end = same_Some next.taking.end first.end (sym next.taking.at ∙ its_end) in
      let rest = length-drop m first.taking.end.known in
      let known : take n next.taking.end.known ≡ take n (drop m first.taking.end.known) =
      ap (λ (e : TakeEnd Entry). take n e.known) end_is ∙ ap (take n) first.known
      ∙ take-append-le n (drop m first.taking.end.known) first.more (omega (arith, rest, few)) in
      let both : take (m + n) first.taking.end.known ≡ take m first.taking.end.known ++ take n next.taking.end.known =
      take-add m n first.taking.end.known ∙ ap (λ es. take m first.taking.end.known ++ es) (sym known) in
      let number : its_built.build ≡ first.taking.built.build = sym (ap (λ (b : BuiltValue). b.build) first.own) in
      record {
        taking = first.taking;
        own = first.own;
        pairs = next.pairs;
        applied = next.applied
            ∙ ap (λ (b : BuiltValue). apply_entries (told_to b.build (take n next.taking.end.known)) (set_of b.pairs)) built_is
            ∙ ap (λ (k : ℕ). apply_entries (told_to k (take n next.taking.end.known)) (set_of first.pairs)) number
            ∙ ap (apply_entries (told_to first.taking.built.build (take n next.taking.end.known))) first.applied
            ∙ sym (apply-append (told_to first.taking.built.build (take m first.taking.end.known)) (told_to first.taking.built.build (take n next.taking.end.known))
            (set_of first.taking.built.pairs))
            ∙ ap (λ es. apply_entries es (set_of first.taking.built.pairs))
            (sym (told_to-append first.taking.built.build (take m first.taking.end.known) (take n next.taking.end.known)) ∙ ap (told_to first.taking.built.build) (sym both));
        ordered = next.ordered;
        end = next.end;
        ring = next.ring ∙ ap (λ (e : TakeEnd Entry). e.ring) end_is ∙ first.ring;
        received = next.received ∙ ap (λ (e : TakeEnd Entry). e.received ++ take n next.taking.end.known) end_is
            ∙ ap (λ es. es ++ take n next.taking.end.known) first.received
            ∙ append_assoc first.taking.end.received (take m first.taking.end.known) (take n next.taking.end.known)
            ∙ ap (λ es. first.taking.end.received ++ es) (sym both);
        more = first.more ++ next.more;
        known = next.known ∙ ap (λ (e : TakeEnd Entry). drop n e.known ++ next.more) end_is ∙ ap (λ es. drop n es ++ next.more) first.known
            ∙ ap (λ es. es ++ next.more) (drop-append-le n (drop m first.taking.end.known) first.more (omega (arith, rest, few)))
            ∙ append_assoc (drop n (drop m first.taking.end.known)) first.more next.more
            ∙ ap (λ es. es ++ (first.more ++ next.more)) (drop-drop n m first.taking.end.known);
        left = next.left
            ∙ ap (λ (b : BuildingValue). left_by b next.taking.work (next.taking.it.applied + n)) first.left
            ∙ ap (λ (w : WorkValue). left_by (record old { sides = set old.sides index first.end }) w (next.taking.it.applied + n)) work_is
            ∙ ap (λ (i : IndexValue). left_by (record old { sides = set old.sides index first.end }) its_work (i.applied + n)) it_is
            ∙ once
            ∙ ap (left_by old first.taking.work) sum;
      } where
        left_by : BuildingValue → WorkValue → ℕ → BuildingValue
        left_by b w count = record b { sides = set b.sides index next.end; work = Some (with_index w index next.pairs count) }

        sum : (first.taking.it.applied + m) + n ≡ first.taking.it.applied + (m + n)
        sum = omega arith

        -- what was written twice is as it was written last
        once :
            left_by (record old { sides = set old.sides index first.end }) its_work ((first.taking.it.applied + m) + n)
            ≡ left_by old first.taking.work ((first.taking.it.applied + m) + n)
        once =
            ap₂ (λ (ends : List (TakeEnd Entry)) (indexes : List IndexValue). record old { sides = ends; work = Some (record first.taking.work { indexes = indexes }) })
            (set-set old.sides index first.end next.end)
            (set-set first.taking.work.indexes index (index_with first.taking.work index first.pairs (first.taking.it.applied + m))
            (index_with first.taking.work index next.pairs ((first.taking.it.applied + m) + n)))

  -- and the next can be applied
  pub can_go_on : (count : ℕ) → first.taking.work.spoiled ≡ None → count ≤ length first.taking.end.known → m < count → CanApply index 1 mid
  unfolding taking_more
  can_go_on count fine seen less = record {
    taking = taking_more;
    fine = fine;
    seen =
        let longer = length-append (drop m first.taking.end.known) first.more in
        let rest = length-drop m first.taking.end.known in
        rw first.known (omega (arith, longer, rest, seen, less));
  }

  -- what may take memory for the next may take it for the one behind those that were applied
  pub needed_behind : m < length first.taking.end.known → MayTakeMemoryFor index 0 mid → MayTakeMemoryFor index m old
  unfolding taking_more
  needed_behind seen next =
      let same = same_taking index mid next.taking taking_more in
      let at_first : slice_get (drop m first.taking.end.known ++ first.more) 0 ≡ Some next.next =
      ap (λ (es : List Entry). slice_get es 0) (sym first.known) ∙ ap (λ (e : TakeEnd Entry). slice_get e.known 0) (sym same.3) ∙ next.there in
      let of_built : MayWant its_built next.next = subst (λ (b : BuiltValue). MayWant b next.next) same.2 next.needs in
      let of_own : MayWant (with_pairs first.taking.work index first.taking.built.pairs) next.next = of_built in
      record {
        taking = first.taking;
        next = next.next;
        there = first_behind m first.taking.end.known first.more next.next seen at_first;
        needs = subst (λ (b : BuiltValue). MayWant b next.next) (sym first.own) of_own;
      }

  -- and what can't be counted with those
  uncounted_behind : CountsNoMore index 0 mid → CountsNoMore index m old
  unfolding taking_more
  uncounted_behind next =
      let its : next.taking.it.applied ≡ first.taking.it.applied + m = ap (λ (i : IndexValue). i.applied) (same_taking index mid next.taking taking_more).1 in
      record { taking = first.taking; past = omega (arith, its, next.past) }

  -- so applying stops
  pub stops_behind :
      (count : ℕ) (new : BuildingValue) → m < count → count ≤ length first.taking.end.known → HasApplied index mid 0 new
      → MayTakeMemoryFor index 0 mid ⊎ CountsNoMore index 0 mid → StopsApplying index count old new
  stops_behind count new less seen next needed = record {
    entries = m;
    fewer = less;
    applied = subst (λ (n : ℕ). HasApplied index old n new) (let same : m + 0 ≡ m = omega arith in same) (applied_more new 0 (omega (arith, less, seen)) next);
    needed = elim needed [
      | inl wanted ↦ inl (needed_behind (omega (arith, less, seen)) wanted)
      | inr uncounted ↦ inr (uncounted_behind uncounted)
    ];
  }

-- before any was taken
pub applied_none : (index : ℕ) (building : BuildingValue) (taking : IsTakingEntries index building) → taking.built ≡ with_pairs taking.work index taking.built.pairs → AreOrdered taking.built.pairs → HasApplied index building 0 building
applied_none index building taking own ordered = record {
  taking = taking;
  own = own;
  pairs = taking.built.pairs;
  applied = refl;
  ordered = ordered;
  end = taking.end;
  ring = refl;
  received = sym (append-nil taking.end.received);
  more = [];
  known = sym (append-nil taking.end.known);
  left =
      let it_is : taking.it ≡ index_with taking.work index taking.built.pairs (taking.it.applied + 0) = same_index in
      let indexes : taking.work.indexes ≡ set taking.work.indexes index (index_with taking.work index taking.built.pairs (taking.it.applied + 0)) =
      sym (set_same taking.work.indexes index taking.it taking.there) ∙ ap (set taking.work.indexes index) it_is in
      ap₂ (λ (ends : List (TakeEnd Entry)) (o : Option WorkValue). record building { sides = ends; work = o }) (sym (set_same building.sides index taking.end taking.at))
      (taking.runs ∙ ap (λ (is : List IndexValue). Some (record taking.work { indexes = is })) indexes);
} where
  zero_more : taking.it.applied ≡ taking.it.applied + 0
  zero_more = omega arith

  same_index : taking.it ≡ index_with taking.work index taking.built.pairs (taking.it.applied + 0)
  same_index =
      ap (λ (o : Option BuiltValue). record { built = o; applied = taking.it.applied }) taking.loaded
      ∙ ap (λ (b : BuiltValue). record { built = Some b; applied = taking.it.applied }) own
      ∙ ap (λ (k : ℕ). record { built = Some (with_pairs taking.work index taking.built.pairs); applied = k }) zero_more

-- an index whose pairs are in order has them
pub stays_built : (index : IndexValue) → is_some index.built ≡ true → (built : BuiltValue) × (index.built ≡ Some built)
stays_built index some = by_built index.built some refl where
  by_built : (o : Option BuiltValue) → is_some o ≡ true → index.built ≡ o → (built : BuiltValue) × (index.built ≡ Some built)
  by_built None some is = absurd (false≢true some)
  by_built (Some built) some is = (built, is)

built_of : (o : Option BuiltValue) → is_some o ≡ true → (built : BuiltValue) × (o ≡ Some built)
built_of (Some built) is = (built, refl)
built_of None is = absurd (false≢true is)

-- entries that the ring's end has seen by itself can be applied, where the index is in order and its build goes on
pub can_apply_seen :
    (index count seen : ℕ) (old new : BuildingValue) (work : WorkValue) (it : IndexValue) → HasSeenEntries index old seen new → new.work ≡ Some work
    → work.spoiled ≡ None → slice_get work.indexes index ≡ Some it → is_some it.built ≡ true → count ≤ seen
    → CanApply index count new
can_apply_seen index count seen old new work it sees runs fine there loaded few =
    let built = built_of it.built loaded in
    let end : TakeEnd Entry = record sees.end { known = sees.end.known ++ sees.more } in
    record {
      taking = record {
        work = work;
        runs = runs;
        it = it;
        there = there;
        built = built.0;
        loaded = built.1;
        end = end;
        at = ap (λ (b : BuildingValue). slice_get b.sides index) sees.left ∙ here_set old.sides index end (below old.sides index sees.end sees.there);
      };
      fine = fine;
      seen = omega (arith, few, sees.counted);
    }

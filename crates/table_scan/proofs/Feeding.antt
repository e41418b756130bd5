-- The ring of a side-file: what waits in it, and what goes into it.
use Rattle.std.proofs.Common.{◌≡◌, ℕ, ◌+◌, ◌-◌, ◌<◌, ◌≤◌, ◌==◌, ◌^◌, List, ◌++◌, length, map, set, take, drop, Option, Some, None, refl, inl, inr, ap₂, sym, ap, ◌∙◌}
use Rattle.std.proofs.Common.{subst, arith, length-append, length-drop, length-take, append_assoc}
use Rattle.std.specs.List.{All, slice_get}
use Rattle.keybytes.specs.Keys.{KeySpecValue, IsKeyOf}
use Rattle.std.specs.Prelude.{IfSome}
use Rattle.std.proofs.lemmas.List.{drop-append-le, length-map, length-set, take-map, get_or-set_same, get_or-set_other}
use Rattle.std.proofs.Math.Seq.{drop-append_seam, take-append_seam}
use Rattle.std.proofs.lemmas.List.Elements.{filter-append}
use Rattle.side_file.specs.Entries.{entry_of}
use Rattle.visibility.specs.SideEntries.{SideEntry}
use Rattle.build_events.specs.SideEntries.{side_entries}
use Rattle.keybytes.specs.declared.kind.Kind.{Kind}
use Rattle.heap_log.specs.declared.record.LogRec.{LogRec}
use Rattle.side_file.specs.Changes.{all_appended, Feeds, IsSideFile}
use Rattle.side_file.specs.Ends.{PutEnd}
use Rattle.side_file.specs.Kept.{last_ones}
use Rattle.side_file.specs.SideFileValue.{SideFileValue}
use Rattle.side_file.specs.declared.entry.Entry.{Entry}
use Rattle.side_file.specs.Ends.{TakeEnd}
use Rattle.table_scan.specs.TableBuilds.{IsBuildOf}
use Rattle.build_events.specs.CoreState.{BuildState, scanning_of}
use Rattle.table_scan.specs.SideFiles.{IsFed, EachEntryOnce, HasEntries, HaveEntries, SidesFollow, AreFedEntries, SeesSide, own_entries, put_ends}
use Rattle.table_scan.proofs.OwnEntries.{next_are_own, own_all}
use Rattle.page_workers.proofs.Places.{at_set, at_map}
use Rattle.build_events.specs.BuildSteps.{after_feed}
use Rattle.build_events.specs.Workers.{fed_to, unfed}

-- what waits is what was fed and not applied
pub waiting_in_ring :
    (fed applied waiting : ℕ) (put : PutEnd Entry) (end : TakeEnd Entry) → IsFed fed applied put end → SeesSide waiting put end
    → (end.known ≡ last_ones (fed - applied) put.sent) × (waiting ≡ fed - applied)
waiting_in_ring fed applied waiting put end is sees =
    let known : end.known ≡ last_ones (fed - applied) put.sent =
    sym (drop-append_seam end.received end.known)
    ∙ ap (drop (length end.received)) (sees.in_order ∙ sym is.waiting)
    ∙ drop-append_seam end.received (last_ones (fed - applied) put.sent) in
    let count = length-drop (length put.sent - (fed - applied)) put.sent in
    (known, omega (arith, sees.counted, ap length known, count, is.were_sent, is.counted))

last_more : {X : Type 0} (n c : ℕ) (xs ys : List X) → length ys ≡ c → last_ones (n + c) (xs ++ ys) ≡ last_ones n xs ++ ys
last_more n c xs ys many =
    let whole = length-append xs ys in
    let same : length (xs ++ ys) - (n + c) ≡ length xs - n = omega (arith, whole, many) in
    ap (λ k. drop k (xs ++ ys)) same ∙ drop-append-le (length xs - n) xs ys (omega arith)

-- so many of the first that are left
fed_count : (old : SideFileValue) (count : ℕ) → count ≤ length old.left → length (take count old.left) ≡ count
fed_count old count few = omega (arith, length-take count old.left, few)

-- how many of an index were fed, once more of one were
pub fed_after : (b : BuildState) (index count : ℕ) → index < length b.fed → fed_to (after_feed b index count) index ≡ fed_to b index + count
fed_after b index count less = get_or-set_same b.fed index (fed_to b index + count) 0 less

pub fed_other : (b : BuildState) (index count k : ℕ) → (k ≡ index → ⊥) → fed_to (after_feed b index count) k ≡ fed_to b k
fed_other b index count k other = get_or-set_other b.fed index k (fed_to b index + count) 0 other

module _
    (log : List LogRec) (b : BuildState) (index : ℕ) (spec : KeySpecValue) (less : index < length b.fed) (old new : SideFileValue) (count : ℕ)
    (has : HasEntries log b index spec old) (feeds : Feeds old count new) (few : count ≤ length old.left) (all : all_appended new ≡ all_appended old) where
  -- the side-file follows
  pub entries_fed : HasEntries log (after_feed b index count) index spec new
  entries_fed = record {
    entries = all ∙ has.entries;
    keys = subst (All (λ entry. IsKeyOf spec entry.key)) (sym all) has.keys;
    count =
        fed_after b index count less ∙ ap (λ n. n + count) has.count
        ∙ sym many;
    sent =
        ap₂ (λ (n : ℕ) (xs : List Entry). last_ones n xs) many feeds.sent
        ∙ last_more (length old.fed) count old.end.sent (take count old.left) (fed_count old count few)
        ∙ ap (λ xs. xs ++ take count old.left) has.sent ∙ sym feeds.fed;
    own =
        ap (own_entries b.number) feeds.sent ∙ filter-append (λ (entry : Entry). entry.build == b.number) old.end.sent (take count old.left)
        ∙ ap (λ (es : List Entry). es ++ own_entries b.number (take count old.left)) has.own
        ∙ ap (λ (es : List Entry). old.fed ++ es) (own_all b.number (take count old.left) (next_are_own log b index spec old count has)) ∙ sym feeds.fed;
  } where
    many : length new.fed ≡ length old.fed + count
    many = ap length feeds.fed ∙ length-append old.fed (take count old.left) ∙ ap (λ n. length old.fed + n) (fed_count old count few)

  -- all can be counted
  pub fed_countable : IsSideFile new → fed_to b index + count < 2 ^ 64
  fed_countable kept =
      let now = entries_fed.count in
      let sum = fed_after b index count less in
      omega (arith, now, sum, kept.few)

  -- more waits in its ring
  pub ring_fed : (applied : ℕ) (end : TakeEnd Entry) → fed_to b index + count < 2 ^ 64 → IsFed (fed_to b index) applied old.end end
      → IsFed (fed_to (after_feed b index count) index) applied new.end end
  ring_fed applied end countable is =
      let n : ℕ = fed_to b index - applied in
      let many = fed_count old count few in
      let more : (fed_to b index + count) - applied ≡ n + count = omega (arith, is.counted) in
      let sent = length-append old.end.sent (take count old.left) in
      subst (λ (f : ℕ). IsFed f applied new.end end) (sym (fed_after b index count less)) (record {
        same_ring = feeds.ring ∙ is.same_ring;
        waiting =
            ap (λ es. end.received ++ last_ones ((fed_to b index + count) - applied) es) feeds.sent
            ∙ ap (λ k. end.received ++ last_ones k (old.end.sent ++ take count old.left)) more
            ∙ ap (λ es. end.received ++ es) (last_more n count old.end.sent (take count old.left) many)
            ∙ sym (append_assoc end.received (last_ones n old.end.sent) (take count old.left))
            ∙ ap (λ es. es ++ take count old.left) is.waiting
            ∙ sym feeds.sent;
        counted = omega (arith, is.counted);
        were_sent = omega (arith, is.were_sent, ap length feeds.sent, sent, many);
        countable = countable;
      })

-- the side-files of the other indexes have what they had
other_fed :
    (log : List LogRec) (b : BuildState) (index count k : ℕ) (spec : KeySpecValue) (side : SideFileValue) → (k ≡ index → ⊥) → HasEntries log b k spec side
    → HasEntries log (after_feed b index count) k spec side
other_fed log b index count k spec side other has = record {
  entries = has.entries;
  keys = has.keys;
  count = fed_other b index count k other ∙ has.count;
  sent = has.sent;
  own = has.own;
}

pub sides_fed :
    (log : List LogRec) (b : BuildState) (index : ℕ) (sides : List SideFileValue) (old new : SideFileValue) (count : ℕ) → index < length b.fed
    → slice_get sides index ≡ Some old → HaveEntries log b sides → Feeds old count new → count ≤ length old.left → all_appended new ≡ all_appended old
    → HaveEntries log (after_feed b index count) (set sides index new)
sides_fed log b index sides old new count less there has feeds few all = λ k spec side at put. elim (at_set sides index new k side put) [
  | inl here ↦
      let was : HasEntries log b index spec old = has index spec old (ap (slice_get b.specs) (sym here.0) ∙ at) there in
      rw (here.1, here.0) (entries_fed log b index spec less old new count was feeds few all)
  | inr other ↦ other_fed log b index count k spec side other.0 (has k spec side at other.1)
]

-- the build is one of that table as before
pub build_fed :
    (kinds : List Kind) (log : List LogRec) (b : BuildState) (index count : ℕ) → IsBuildOf kinds log b → IsBuildOf kinds log (after_feed b index count)
build_fed kinds log b index count is = record {
  some_index = is.some_index;
  few_indexes = is.few_indexes;
  few_workers = is.few_workers;
  columns = is.columns;
  fed_many = length-set b.fed index (fed_to b index + count) ∙ is.fed_many;
  limit = is.limit;
  cuts = is.cuts;
  for_workers = is.for_workers;
  scanned = is.scanned;
}

-- no more was fed than there was
pub fed_entries_there :
    (log : List LogRec) (b : BuildState) (index : ℕ) (spec : KeySpecValue) (side : SideFileValue) → HasEntries log b index spec side
    → fed_to b index ≤ length (side_entries (scanning_of b spec) log)
fed_entries_there log b index spec side has =
    let put : SideEntry → Entry = entry_of b.number in
    let es : List SideEntry = side_entries (scanning_of b spec) log in
    let all = ap length has.entries in
    let sum = length-append side.fed side.left in
    let many = length-map es put in
    omega (arith, has.count, all, sum, many)

-- the fed entries are the first ones of the side-file, and the last that the ring was sent
pub fed_entries :
    (log : List LogRec) (b : BuildState) (index : ℕ) (spec : KeySpecValue) (side : SideFileValue) → HasEntries log b index spec side
    → AreFedEntries log b index spec side.end
fed_entries log b index spec side has = record {
  entries =
      let put : SideEntry → Entry = entry_of b.number in
      let es : List SideEntry = side_entries (scanning_of b spec) log in
      ap (λ n. last_ones n side.end.sent) has.count ∙ has.sent
      ∙ sym (take-append_seam side.fed side.left)
      ∙ ap (take (length side.fed)) has.entries
      ∙ take-map put (length side.fed) es
      ∙ ap (λ n. map put (take n es)) (sym has.count);
  no_other =
      let put : SideEntry → Entry = entry_of b.number in
      let es : List SideEntry = side_entries (scanning_of b spec) log in
      has.own ∙ sym (take-append_seam side.fed side.left)
      ∙ ap (take (length side.fed)) has.entries
      ∙ take-map put (length side.fed) es
      ∙ ap (λ n. map put (take n es)) (sym has.count);
  there = fed_entries_there log b index spec side has;
}

-- of the build that runs, if one does
pub fed_if_running :
    (log : List LogRec) (build : Option BuildState) (index : ℕ) (sides : List SideFileValue) (side : SideFileValue) → SidesFollow log build sides
    → slice_get sides index ≡ Some side
    → IfSome build (λ b. IfSome (slice_get b.specs index) (λ spec. AreFedEntries log b index spec side.end))
fed_if_running log None index sides side has there = tt
fed_if_running log (Some b) index sides side has there = by_spec (slice_get b.specs index) refl where
  by_spec : (o : Option KeySpecValue) → slice_get b.specs index ≡ o → IfSome o (λ spec. AreFedEntries log b index spec side.end)
  by_spec None is = tt
  by_spec (Some spec) is = fed_entries log b index spec side (has index spec side is there)

-- so it is of each index, by the ends of the rings alone
pub each_entry_once :
    (log : List LogRec) (build : Option BuildState) (sides : List SideFileValue) → SidesFollow log build sides
    → IfSome build (λ b. EachEntryOnce log b (put_ends sides))
each_entry_once log None sides has = tt
each_entry_once log (Some b) sides has = λ index spec put at there.
    let side = at_map (λ (s : SideFileValue). s.end) sides index put there in
    subst (AreFedEntries log b index spec) side.2 (fed_entries log b index spec side.0 (has index spec side.0 at side.1))

-- what isn't fed is left
pub left_unfed :
    (log : List LogRec) (b : BuildState) (index : ℕ) (spec : KeySpecValue) (side : SideFileValue) → slice_get b.specs index ≡ Some spec
    → HasEntries log b index spec side → unfed b log index (slice_get b.specs index) ≡ length side.left
left_unfed log b index spec side at has =
    let put : SideEntry → Entry = entry_of b.number in
    let es : List SideEntry = side_entries (scanning_of b spec) log in
    let all = ap length has.entries in
    let sum = length-append side.fed side.left in
    let many = length-map es put in
    let count : length es - fed_to b index ≡ length side.left = omega (arith, has.count, all, sum, many) in
    ap (unfed b log index) at ∙ count

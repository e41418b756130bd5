-- The work of a build that was kept apart from its table: once all was copied, taken and put in order, it is beside the table as if it had
-- never been away.
use Rattle.std.proofs.Common.{length-take-le, ◌≡◌, ℕ, zero, suc, ◌+◌, ◌-◌, ◌<◌, ◌≤◌, true, List, [], ◌∷◌, ◌++◌, length, map, take, take_all, drop, Some, None}
use Rattle.std.proofs.Common.{refl, sym, ap, ◌∙◌, subst, inl, inr, arith, get_or, take-take, take-append-drop, drop-drop}
use Rattle.std.specs.Prelude.{is_some, not, flat_map, IsPermutation}
use Rattle.std.specs.FinMap.{keys}
use Rattle.std.specs.FinSet.{FinSet}
use Rattle.std.specs.List.{All, position, slice_get}
use Rattle.std.specs.Ordering.{eq_by_cmp}
use Rattle.std.proofs.lemmas.Bool.{cases_Bool, false≢true, not-false}
use Rattle.std.proofs.lemmas.List.{append-nil, append_cancel_right, drop-map}
use Rattle.std.proofs.lemmas.List.Elements.{All-nil}
use Rattle.std.proofs.lemmas.List.Sorted.{IsPermutation-refl, list_any-IsPermutation}
use Rattle.std.proofs.lemmas.Option.{same_Some}
use Rattle.keybytes.specs.Keys.{KeySpecValue}
use Rattle.keybytes.specs.Pairs.{pair_cmp, set_of}
use Rattle.keybytes.specs.declared.kind.Kind.{Kind}
use Rattle.keybytes.specs.declared.pair.Pair.{Pair}
use Rattle.keybytes.proofs.PairSets.{same_sets}
use Rattle.heap_log.specs.declared.record.LogRec.{LogRec}
use Rattle.heap_table.specs.Images.{ImageValue}
use Rattle.side_file.specs.Ends.{PutEnd, RingId}
use Rattle.side_file.specs.Entries.{entry_of}
use Rattle.side_file.specs.Kept.{last_ones}
use Rattle.side_file.specs.declared.entry.Entry.{Entry}
use Rattle.visibility.specs.Applied.{apply_entries}
use Rattle.visibility.specs.SideEntries.{SideEntry}
use Rattle.catch_up.specs.Built.{BuiltValue, told, told_to}
use Rattle.catch_up.proofs.Telling.{told_entries, told_to-append}
use Rattle.page_workers.specs.Copies.{IsFor, images_of}
use Rattle.page_workers.specs.Holding.{HoldsOpen}
use Rattle.page_workers.specs.ImagePairs.{HavePairs}
use Rattle.side_file.specs.Ends.{TakeEnd}
use Rattle.page_workers.specs.Taking.{received_images, unsealed_images}
use Rattle.page_workers.specs.WorkerValue.{IsCounting, WorkerValue}
use Rattle.page_workers.specs.declared.copied.Copied.{Copied}
use Rattle.page_workers.proofs.ManyPairs.{have_split}
use Rattle.page_workers.proofs.SamePairs.{have_same}
use Rattle.build_events.specs.CoreState.{BuildState, scanning_of}
use Rattle.build_events.specs.Ranges.{open_range}
use Rattle.build_events.specs.Scanning.{pairs_at_scan, scanned_pairs}
use Rattle.build_events.specs.SideEntries.{side_entries}
use Rattle.build_events.specs.Workers.{fed_to, put_to}
use Rattle.build_events.specs.declared.scan.Scan.{Scan}
use Rattle.table_scan.specs.SideFiles.{AreFedEntries, EachEntryOnce, IsFed, own_entries}
use Rattle.table_scan.specs.TableBuilds.{IsBuildOf}
use Rattle.table_scan.proofs.OwnEntries.{all_own_entries, own_all}
use Rattle.page_workers.proofs.Places.{all_at, all_from, below, map_at, there_is}
use Rattle.building.specs.BuildingValue.{BuildingValue, IndexValue, WorkValue}
use Rattle.building.specs.Keeping.{HasHanded, IsIndexOf, IsKept, KeepsLaws, all_received}
use Rattle.building.specs.Rings.{AreSealed, IsSealed, IsWorkerOf, all_sent}
use Rattle.building.specs.WorkOn.{AreAtWork, IsCaughtUpTo, IsIndexOn, IsWorkOfBuild}
use Rattle.building.proofs.Positions.{all_fail}
use Rattle.live_lemmas.specs.Builds.{IsRunning, LiveValue, StandsBeside}
use Rattle.live_lemmas.specs.Invariant.{EachPageOnce}
use Rattle.live_lemmas.specs.Rings.{all_images}
use Rattle.live_lemmas.specs.Switching.{IsPartOf}
use Rattle.live_lemmas.proofs.AllImages.{all_own}
use Rattle.live_lemmas.proofs.CopyPairs.{copies_pairs}
use Rattle.live_lemmas.proofs.HandedOver.{spec_is}
use Rattle.live_lemmas.proofs.Partition.{parts_together}
use Rattle.live_lemmas.proofs.Refusals.{works_with}

-- pairs in another order make the same set
same_set : (made pairs : List Pair) → IsPermutation made pairs → set_of made ≡ set_of pairs
same_set made pairs moved = same_sets made pairs (λ q. list_any-IsPermutation (eq_by_cmp pair_cmp q) made pairs moved)

-- of the last n, all but the first k are the last of all
last_dropped : {X : Type 0} (n k : ℕ) (xs : List X) → k ≤ n → n ≤ length xs → drop k (last_ones n xs) ≡ last_ones (n - k) xs
last_dropped n k xs few there =
    drop-drop k (length xs - n) xs ∙ ap (λ i. drop i xs) (let sum : (length xs - n) + k ≡ length xs - (n - k) = omega (arith, few, there) in sum)

-- what a ring was sent tells an index just the build's own entries
told_own :
    (build : ℕ) (sent : List Entry) (changes : List SideEntry) → own_entries build sent ≡ map (entry_of build) changes → told_to build sent ≡ changes
told_own build sent changes own =
    ap (map told) (own ∙ sym (own_all build (map (entry_of build) changes) (all_own_entries build changes))) ∙ told_entries build changes

-- where the first of a build's entries were fed, an end that took all of them but those that wait was told the first
told_first :
    (build fed applied : ℕ) (put : PutEnd Entry) (end : TakeEnd Entry) (changes : List SideEntry) → IsFed fed applied put end
    → last_ones fed put.sent ≡ map (entry_of build) (take fed changes) → own_entries build put.sent ≡ map (entry_of build) (take fed changes)
    → told_to build end.received ≡ take applied changes
told_first build fed applied put end changes ring last own =
    let first : List SideEntry = take fed changes in
    let waiting : List Entry = last_ones (fed - applied) put.sent in
    let told_waiting : told_to build waiting ≡ drop applied first =
    ap (told_to build) (sym (last_dropped fed applied put.sent ring.counted ring.were_sent) ∙ ap (drop applied) last ∙ drop-map (entry_of build) applied first)
    ∙ told_entries build (drop applied first) in
    append_cancel_right (told_to build end.received) (take applied first) (drop applied first)
    (ap (λ (rest : List SideEntry). told_to build end.received ++ rest) (sym told_waiting)
    ∙ sym (told_to-append build end.received waiting)
    ∙ ap (told_to build) ring.waiting
    ∙ told_own build put.sent first own
    ∙ sym (take-append-drop applied first))
    ∙ take-take applied fed changes ring.counted

module _ {X : Type 0} (spec : KeySpecValue) (images : X → List ImageValue) where
  -- the pairs on the images of several, one after another
  record HasParts (xs : List X) (made : List Pair) : Type 0 where
    pub parts : List (List Pair)
    pub many : length parts ≡ length xs
    pub whole : flat_map (λ (pairs : List Pair). pairs) parts ≡ made
    pub each : (k : ℕ) (x : X) (pairs : List Pair) → slice_get xs k ≡ Some x → slice_get parts k ≡ Some pairs → HavePairs spec (images x) pairs

  first_or_other :
      (x : X) (xs : List X) (first : List Pair) (parts : List (List Pair)) → HavePairs spec (images x) first
      → ((k : ℕ) (y : X) (pairs : List Pair) → slice_get xs k ≡ Some y → slice_get parts k ≡ Some pairs → HavePairs spec (images y) pairs)
      → (k : ℕ) (y : X) (pairs : List Pair) → slice_get (x ∷ xs) k ≡ Some y → slice_get (first ∷ parts) k ≡ Some pairs → HavePairs spec (images y) pairs
  first_or_other x xs first parts have others zero y pairs at there =
      subst (λ (z : X). HavePairs spec (images z) pairs) (same_Some x y at) (subst (HavePairs spec (images x)) (same_Some first pairs there) have)
  first_or_other x xs first parts have others (suc k) y pairs at there = others k y pairs at there

  -- the pairs on all of them are such parts
  in_parts : (xs : List X) (made : List Pair) → HavePairs spec (flat_map images xs) made → HasParts xs made
  in_parts [] made have = record { parts = []; many = refl; whole = sym have; each = λ k x pairs at there. absurd (cc) }
  in_parts (x ∷ xs) made have =
      let both = have_split spec (images x) (flat_map images xs) made have in
      let rest = in_parts xs both.1 both.3 in
      record {
        parts = both.0 ∷ rest.parts;
        many = ap suc rest.many;
        whole = ap (λ (pairs : List Pair). both.0 ++ pairs) rest.whole ∙ sym both.4;
        each = first_or_other x xs both.0 rest.parts both.2 rest.each;
      }

-- where no index is the first that isn't in order, all are
pub all_loaded :
    (indexes : List IndexValue) → None ≡ position (λ (i : IndexValue). not (is_some i.built)) indexes → (k : ℕ) (index : IndexValue)
    → slice_get indexes k ≡ Some index → is_some index.built ≡ true
all_loaded indexes none k index at = not-false (is_some index.built) (all_fail (λ (i : IndexValue). not (is_some i.built)) indexes (sym none) k index at)

module _
    (live : LiveValue) (building : BuildingValue) (part : IsPartOf live building)
    (kept : IsKept building.workers building.sides building.spools part.of.work)
    (follows : IsBuildOf live.state.heap.schema live.state.heap.log part.of.build) where
  abbrev b : BuildState
  b = part.of.build

  abbrev w : WorkValue
  w = part.of.work

  abbrev kinds : List Kind
  kinds = live.state.heap.schema

  abbrev log : List LogRec
  log = live.state.heap.log

  -- there is an index, and before the first load none is in order
  first_index : (index : IndexValue) × (slice_get w.indexes 0 ≡ Some index)
  first_index = there_is w.indexes 0 (omega (arith, follows.some_index, kept.many, ap length part.of.specs))

  -- so where all are in order the workers have handed their spools over
  pub handed : ((k : ℕ) (index : IndexValue) → slice_get w.indexes k ≡ Some index → is_some index.built ≡ true) → w.handed ≡ true
  handed loaded = elim (cases_Bool w.handed) [
    | inl loads ↦ loads
    | inr scans ↦
        let none = all_at (λ (i : IndexValue). i.built ≡ None) w.indexes 0 first_index.0 (kept.unloaded scans) first_index.1 in
        absurd (false≢true (sym (ap is_some none) ∙ loaded 0 first_index.0 first_index.1))
  ]

  -- one of the workers, from the first load on
  handed_one : w.handed ≡ true → (k : ℕ) (worker : WorkerValue) → slice_get building.workers k ≡ Some worker → HasHanded w.specs worker
  handed_one loads k worker at = all_at (HasHanded w.specs) building.workers k worker (kept.handed loads) at

  -- where each worker's specifications are of the columns that it reads, these are the table's
  pub same_columns :
      All (λ worker. All (λ spec. spec.kinds ≡ worker.maker.schema) worker.maker.specs) building.workers
      → All (λ worker. worker.maker.schema ≡ kinds) building.workers
  same_columns own = all_from (λ (worker : WorkerValue). worker.maker.schema ≡ kinds) building.workers (λ k worker at.
      let specs_are : worker.maker.specs ≡ b.specs = (kept.placed k worker at).specs_are ∙ sym part.of.specs in
      let first = there_is b.specs 0 follows.some_index in
      let its : slice_get worker.maker.specs 0 ≡ Some first.0 = ap (λ (specs : List KeySpecValue). slice_get specs 0) specs_are ∙ first.1 in
      let mine = all_at (λ (v : WorkerValue). All (λ spec. spec.kinds ≡ v.maker.schema) v.maker.specs) building.workers k worker own at in
      sym (all_at (λ (s : KeySpecValue). s.kinds ≡ worker.maker.schema) worker.maker.specs 0 first.0 mine its)
      ∙ all_at (λ (s : KeySpecValue). s.kinds ≡ kinds) b.specs 0 first.0 follows.columns first.1)

  module _
      (given : building.given ≡ true) (pages : EachPageOnce kinds log b (all_sent live.pages))
      (entries : EachEntryOnce log b live.sides) (page_rings : length live.pages ≡ 16) (entry_rings : length live.sides ≡ 8)
      (taken_rings : length building.sides ≡ 8) (all : open_range b ≡ None) (sealed : AreSealed (all_sent live.pages) building.workers)
      (rings : List RingId) (laws : All (KeepsLaws rings) building.workers)
      -- the workers read rows of the table's columns
      (schemas : All (λ worker. worker.maker.schema ≡ kinds) building.workers) where
    columns : All (λ spec. spec.kinds ≡ kinds) w.specs
    columns = subst (λ (specs : List KeySpecValue). All (λ spec. spec.kinds ≡ kinds) specs) part.of.specs follows.columns

    -- a worker and what its ring was sent
    module _
        (k : ℕ) (sent : List Copied) (worker : WorkerValue) (there : slice_get (all_sent live.pages) k ≡ Some sent)
        (at : slice_get building.workers k ≡ Some worker) where
      keeps : KeepsLaws rings worker
      keeps = all_at (KeepsLaws rings) building.workers k worker laws at

      counting : IsCounting worker.intake worker.maker
      counting = keeps.counting (kept.placed k worker at).fine

      done : IsSealed sent worker
      done = sealed k sent worker there at

      schema : worker.maker.schema ≡ kinds
      schema = all_at (λ (v : WorkerValue). v.maker.schema ≡ kinds) building.workers k worker schemas at

      of_build : worker.intake.build ≡ b.number
      of_build = (kept.placed k worker at).of_build ∙ part.of.number

      is_worker : IsWorkerOf b.number kinds w.specs w.handed sent worker
      is_worker = record {
        fine = (kept.placed k worker at).fine;
        schema = schema;
        specs_are = (kept.placed k worker at).specs_are;
        handed = (kept.placed k worker at).spools_are;
        own = λ scans.
            let is = kept.placed k worker at in
            (keeps.holding is.fine (is.spools_are ∙ scans)).many ∙ ap length is.specs_are;
        none = λ loads. (handed_one loads k worker at).none;
        opened = λ loads index spec is.
            let kinds_are : worker.maker.schema ≡ spec.kinds = schema ∙ sym (all_at (λ (s : KeySpecValue). s.kinds ≡ kinds) w.specs index spec columns is) in
            subst (λ (ks : List Kind). HoldsOpen spec (unsealed_images ks worker.intake) (get_or worker.maker.begun index [])) kinds_are
            (subst (λ (s : KeySpecValue). HoldsOpen s (unsealed_images worker.maker.schema worker.intake) (get_or worker.maker.begun index []))
            (spec_is w.specs index spec is) ((handed_one loads k worker at).opened index (below w.specs index spec is)));
        taking = record {
          of_build = of_build;
          rest = [];
          in_order = append-nil worker.intake.end.received ∙ done.taken;
          own = All-nil (IsFor b.number kinds);
          taken = counting.taken ∙ ap (λ (ks : List Kind). length (received_images ks worker.intake)) schema;
          sealed_was_taken = counting.sealed_was_taken;
        };
      }

      -- it received the copies of all pages that were copied for it
      received : received_images worker.maker.schema worker.intake ≡ all_images b.number sent
      received =
          ap (λ (ks : List Kind). received_images ks worker.intake) schema
          ∙ ap (λ (n : ℕ). images_of n kinds worker.intake.end.received) of_build
          ∙ ap (images_of b.number kinds) done.taken
          ∙ all_own kinds log b.number (put_to b k) sent (pages.sent k sent there)

      -- so it has the pairs of these pages
      its_pairs :
          (spec : KeySpecValue) → spec.kinds ≡ kinds
          → HavePairs spec (received_images worker.maker.schema worker.intake) (flat_map (pairs_at_scan (scanning_of b spec) log) (put_to b k))
      its_pairs spec of_kinds =
          subst (λ (images : List ImageValue). HavePairs spec images (flat_map (pairs_at_scan (scanning_of b spec) log) (put_to b k))) (sym received)
          (copies_pairs (scanning_of b spec) kinds log (put_to b k) (all_images b.number sent) of_kinds (pages.sent k sent there))

    -- the pairs of all that the workers received
    module _ (spec : KeySpecValue) (of_kinds : spec.kinds ≡ kinds) (made : List Pair) (have : HavePairs spec (all_received building.workers) made) where
      abbrev its_images : WorkerValue → List ImageValue
      its_images worker = received_images worker.maker.schema worker.intake

      abbrev scanned : List Pair
      scanned = scanned_pairs (scanning_of b spec) log

      by_worker : HasParts spec its_images building.workers made
      by_worker = in_parts spec its_images building.workers made have

      own_part :
          (k : ℕ) (pairs : List Pair) → k < b.workers → slice_get by_worker.parts k ≡ Some pairs
          → IsPermutation pairs (flat_map (pairs_at_scan (scanning_of b spec) log) (put_to b k))
      own_part k pairs less at =
          let worker = there_is building.workers k (omega (arith, less, part.of.workers)) in
          let end = there_is live.pages k (omega (arith, less, follows.few_workers, page_rings)) in
          let there : slice_get (all_sent live.pages) k ≡ Some end.0.sent = map_at (λ (e : PutEnd Copied). e.sent) live.pages k end.0 end.1 in
          let same = have_same spec (its_images worker.0) pairs _ (by_worker.each k worker.0 pairs worker.1 at)
          (its_pairs k end.0.sent worker.0 there worker.1 spec of_kinds) in
          subst (IsPermutation pairs) same (IsPermutation-refl pairs)

      -- are those of all scanned pages
      together : IsPermutation made scanned
      together =
          let count : length by_worker.parts ≡ b.workers = by_worker.many ∙ part.of.workers in
          let first : take b.workers by_worker.parts ≡ by_worker.parts = take_all b.workers by_worker.parts (omega (arith, count)) in
          let whole : flat_map (λ (pairs : List Pair). pairs) (take b.workers by_worker.parts) ≡ made =
          ap (flat_map (λ (pairs : List Pair). pairs)) first ∙ by_worker.whole in
          subst (λ (pairs : List Pair). IsPermutation pairs scanned) whole
          (parts_together (λ (pairs : List Pair). pairs) (λ (s : Scan). s.worker) (pairs_at_scan (scanning_of b spec) log) b.scans by_worker.parts b.workers
          (omega (arith, count)) follows.for_workers own_part)

    -- one index
    module _
        (k : ℕ) (spec : KeySpecValue) (index : IndexValue) (at : slice_get b.specs k ≡ Some spec) (there : slice_get w.indexes k ≡ Some index) where
      of_table : spec.kinds ≡ kinds
      of_table = all_at (λ (s : KeySpecValue). s.kinds ≡ kinds) b.specs k spec follows.columns at

      less : k < 8
      less = let first = below b.specs k spec at in omega (arith, first, follows.few_indexes)

      put : (it : PutEnd Entry) × (slice_get live.sides k ≡ Some it)
      put = there_is live.sides k (omega (arith, less, entry_rings))

      end : (it : TakeEnd Entry) × (slice_get building.sides k ≡ Some it)
      end = there_is building.sides k (omega (arith, less, taken_rings))

      ring : IsFed (fed_to b k) index.applied put.0 end.0
      ring = part.fed k index put.0 end.0 there put.1 end.1

      fed : AreFedEntries log b k spec put.0
      fed = entries k spec put.0 at put.1

      its_index : IsIndexOf w.build spec building.workers end.0 index
      its_index = kept.indexes k spec end.0 index (ap (λ (specs : List KeySpecValue). slice_get specs k) (sym part.of.specs) ∙ at) end.1 there

      abbrev changes : List SideEntry
      changes = side_entries (scanning_of b spec) log

      told_is : told_to w.build end.0.received ≡ take index.applied changes
      told_is =
          ap (λ (n : ℕ). told_to n end.0.received) part.of.number
          ∙ told_first b.number (fed_to b k) index.applied put.0 end.0 changes ring fed.entries fed.no_other

      -- its pairs are those of the scanned pages, with the first of its entries applied to them
      caught_up : (built : BuiltValue) → index.built ≡ Some built → IsCaughtUpTo index.applied (scanning_of b spec) log built.pairs
      caught_up built is =
          let pairs_of = its_index.loaded built is in
          let scanned : List Pair = scanned_pairs (scanning_of b spec) log in
          let same : set_of pairs_of.made ≡ set_of scanned = same_set pairs_of.made scanned (together spec of_table pairs_of.made pairs_of.received) in
          pairs_of.applied
          ∙ ap (λ (es : List SideEntry). keys (apply_entries es (set_of pairs_of.made))) told_is
          ∙ ap (λ (members : FinSet pair_cmp). keys (apply_entries (take index.applied changes) members)) same

      index_on : IsIndexOn log b spec index
      index_on = record {
        all = λ some. all;
        none_before = λ none.
            let untold : take index.applied changes ≡ [] = sym told_is ∙ its_index.none_before none in
            let many = length-take-le index.applied changes (omega (arith, ring.counted, fed.there)) in
            omega (arith, many, ap length untold);
        there = omega (arith, ring.counted, fed.there);
        loaded = caught_up;
        of_build = λ built is. its_index.of_build built is ∙ part.of.number;
        of_spec = its_index.of_spec;
      }

    -- it is the work of that build
    pub work_on : IsWorkOfBuild kinds log b w
    work_on = record {
      number = part.of.number;
      specs = part.of.specs;
      columns = columns;
      many = kept.many ∙ sym (ap length part.of.specs);
      indexes = index_on;
    }

    -- and its workers have taken all
    pub at_work : AreAtWork kinds b live.pages live.sides building w
    at_work = record {
      fed = part.fed;
      given = given;
      many = part.of.workers;
      taking = λ goes_on. is_worker;
      lent = λ goes_on. kept.lent;
      drained = λ goes_on loads. (all, sealed);
      columns = λ goes_on. kept.columns;
    }

    pub reunited_run : IsRunning live building b w
    reunited_run = record { build_is = part.of.runs; work_is = part.of.there; follows = follows; on = work_on; at_work = at_work }

    pub reunited : StandsBeside live building
    reunited = works_with live building b w reunited_run

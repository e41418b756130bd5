-- What waits for a worker, and what it has not sealed, by what its ring was sent.
use Rattle.std.proofs.Common.{◌≡◌, ℕ, zero, suc, ◌+◌, ◌-◌, ◌%◌, ◌==◌, Bool, true, List, [], ◌∷◌, ◌++◌, length, take, take_all, drop}
use Rattle.std.proofs.Common.{get_or, Some, refl, sym, ap, ◌∙◌, subst, arith, length-append}
use Rattle.std.specs.Prelude.{flat_map, IsPermutation}
use Rattle.std.proofs.lemmas.List.Sorted.{IsPermutation-sym}
use Rattle.run_spool.specs.Spools.{all_pairs}
use Rattle.run_maker.specs.Making.{MakerValue}
use Rattle.std.specs.List.{All, slice_get, list_all}
use Rattle.std.proofs.lemmas.Bool.{and_parts, and_from, eq-eqb, eqb-true}
use Rattle.std.proofs.lemmas.List.{append_cancel_left, drop-append-le, take-append-le, take-take, nil_from_length, append-nil}
use Rattle.std.proofs.lemmas.List.Elements.{All-head, All-tail}
use Rattle.std.proofs.Math.ListN.{drop_of_length-le}
use Rattle.std.proofs.lemmas.Option.{same_Some}
use Rattle.keybytes.specs.Keys.{KeySpecValue}
use Rattle.keybytes.specs.declared.kind.Kind.{Kind}
use Rattle.keybytes.specs.declared.pair.Pair.{Pair}
use Rattle.heap_log.specs.declared.record.LogRec.{LogRec}
use Rattle.heap_table.specs.Images.{ImageValue}
use Rattle.page_workers.specs.Copies.{IsFor, is_for, images_of}
use Rattle.page_workers.specs.Holding.{HoldsPairs, HoldsOpen}
use Rattle.page_workers.specs.Taking.{IsTaking, received_images, sealed_images, unsealed_images}
use Rattle.page_workers.specs.ImagePairs.{HavePairs}
use Rattle.page_workers.specs.IntakeValue.{IntakeValue}
use Rattle.page_workers.specs.Work.{next_images}
use Rattle.page_workers.specs.declared.copied.Copied.{Copied}
use Rattle.page_workers.proofs.ManyPairs.{for_decides, images-append}
use Rattle.page_workers.proofs.SamePairs.{have_same}
use Rattle.page_workers.proofs.Taking.{own_images, sees_rest, sent_count}
use Rattle.building.specs.BuildingValue.{worker_state}
use Rattle.build_events.specs.CoreState.{BuildState, scanning_of}
use Rattle.live_lemmas.specs.Rings.{all_images}
use Rattle.build_events.specs.Scanning.{AreCopies, pairs_at_scan}
use Rattle.build_events.specs.Workers.{put_to, unsealed_pairs, fill_runs, is_sealed}
use Rattle.build_events.specs.declared.scan.Scan.{Scan}
use Rattle.live_lemmas.proofs.AllImages.{all_own}
use Rattle.build_events.proofs.Copies.{copies_count}
use Rattle.live_lemmas.proofs.CopyPairs.{copies_pairs}
use Rattle.page_workers.proofs.Places.{all_at, there_is, no_pair, no_pairs}

-- all that was sent is received, and no run is open
pub record IsDone (sent : List Copied) (intake : IntakeValue) (maker : MakerValue) : Type 0 where
  pub taken : intake.end.received ≡ sent
  pub closed : All (λ begun. begun ≡ []) maker.begun

-- the first copies, and the others
copies_take : (kinds : List Kind) (log : List LogRec) (n : ℕ) (scans : List Scan) (images : List ImageValue) → AreCopies kinds log scans images → AreCopies kinds log (take n scans) (take n images)
copies_take kinds log zero scans images copies = tt
copies_take kinds log (suc n) [] [] copies = tt
copies_take kinds log (suc n) [] (i ∷ is) copies = absurd copies
copies_take kinds log (suc n) (s ∷ ss) [] copies = absurd copies
copies_take kinds log (suc n) (s ∷ ss) (i ∷ is) copies = (copies.0, copies_take kinds log n ss is copies.1)

copies_drop : (kinds : List Kind) (log : List LogRec) (n : ℕ) (scans : List Scan) (images : List ImageValue) → AreCopies kinds log scans images → AreCopies kinds log (drop n scans) (drop n images)
copies_drop kinds log zero scans images copies = copies
copies_drop kinds log (suc n) [] [] copies = tt
copies_drop kinds log (suc n) [] (i ∷ is) copies = absurd copies
copies_drop kinds log (suc n) (s ∷ ss) [] copies = absurd copies
copies_drop kinds log (suc n) (s ∷ ss) (i ∷ is) copies = copies_drop kinds log n ss is copies.1

-- the first of the copies of one build and of its columns have the first images
own_take :
    (build : ℕ) (kinds : List Kind) (n : ℕ) (copies : List Copied) → All (IsFor build kinds) copies
    → take n (images_of build kinds copies) ≡ images_of build kinds (take n copies)
own_take build kinds zero copies own = refl
own_take build kinds (suc n) [] own = refl
own_take build kinds (suc n) (copied ∷ copies) own =
    let is : is_for build kinds copied ≡ true = (for_decides build kinds copied).1 (All-head (IsFor build kinds) copied copies own) in
    let rest = own_take build kinds n copies (All-tail (IsFor build kinds) copied copies own) in
    rw is (ap (λ images. copied.image ∷ images) rest)

-- what passes of all, and of each
all_pass : {X : Type 0} (test : X → Bool) (xs : List X) → ((k : ℕ) (x : X) → slice_get xs k ≡ Some x → test x ≡ true) → list_all test xs ≡ true
all_pass test [] each = refl
all_pass test (x ∷ xs) each = and_from (test x) (list_all test xs) (each 0 x refl) (all_pass test xs (λ k y at. each (suc k) y at))

each_passes : {X : Type 0} (test : X → Bool) (xs : List X) → list_all test xs ≡ true → (k : ℕ) (x : X) → slice_get xs k ≡ Some x → test x ≡ true
each_passes test [] all k x at = absurd (cc)
each_passes test (y ∷ ys) all zero x at = ap test (sym (same_Some y x at)) ∙ (and_parts (test y) (list_all test ys) all).0
each_passes test (y ∷ ys) all (suc k) x at = each_passes test ys (and_parts (test y) (list_all test ys) all).1 k x at

module _
    (kinds : List Kind) (log : List LogRec) (b : BuildState) (k : ℕ) (sent : List Copied) (worker : IntakeValue) (put : AreCopies kinds log (put_to b k) (all_images b.number sent))
    (taking : IsTaking b.number kinds sent worker) where
  -- all of them are of the table's columns
  copies : AreCopies kinds log (put_to b k) (images_of b.number kinds sent)
  copies = subst (AreCopies kinds log (put_to b k)) (sym (all_own kinds log b.number (put_to b k) sent put)) put

  -- the images that it received, and the others
  parts : images_of b.number kinds sent ≡ received_images kinds worker ++ images_of b.number kinds taking.rest
  parts =
      ap (images_of b.number kinds) (sym taking.in_order) ∙ images-append b.number kinds worker.end.received taking.rest
      ∙ ap (λ n. images_of n kinds worker.end.received ++ images_of b.number kinds taking.rest) (sym taking.of_build)

  counted : length (put_to b k) ≡ worker.taken + length (images_of b.number kinds taking.rest)
  counted =
      let count = copies_count kinds log (put_to b k) (images_of b.number kinds sent) copies in
      omega (arith, count, ap length parts, length-append (received_images kinds worker) (images_of b.number kinds taking.rest), taking.taken)

  first_images : take worker.taken (images_of b.number kinds sent) ≡ received_images kinds worker
  first_images =
      ap (take worker.taken) parts
      ∙ ap (λ n. take n (received_images kinds worker ++ images_of b.number kinds taking.rest)) taking.taken
      ∙ take-append-le (length (received_images kinds worker)) (received_images kinds worker) (images_of b.number kinds taking.rest) (omega arith)
      ∙ take_all (length (received_images kinds worker)) (received_images kinds worker) (omega arith)

  -- copies of the first scans for it
  pub received_copies : AreCopies kinds log (take worker.taken (put_to b k)) (received_images kinds worker)
  received_copies =
      subst (AreCopies kinds log (take worker.taken (put_to b k))) first_images
      (copies_take kinds log worker.taken (put_to b k) (images_of b.number kinds sent) copies)

  -- the images behind these are copies of the scans behind those
  later_images : drop worker.taken (images_of b.number kinds sent) ≡ images_of b.number kinds taking.rest
  later_images =
      let received = received_images kinds worker in
      let rest = images_of b.number kinds taking.rest in
      ap (drop worker.taken) parts ∙ drop-append-le worker.taken received rest (omega (arith, taking.taken))
      ∙ ap (λ images. images ++ rest) (drop_of_length-le received (omega (arith, taking.taken)))

  pub next_copied : (n : ℕ) → worker.end.received ++ worker.end.known ≡ sent → AreCopies kinds log (take n (drop worker.taken (put_to b k))) (next_images n kinds worker)
  next_copied n in_order =
      let rest = images_of b.number kinds taking.rest in
      let all : AreCopies kinds log (drop worker.taken (put_to b k)) rest =
      subst (AreCopies kinds log (drop worker.taken (put_to b k))) later_images
      (copies_drop kinds log worker.taken (put_to b k) (images_of b.number kinds sent) copies) in
      let same : take n rest ≡ next_images n kinds worker =
      own_take b.number kinds n taking.rest taking.own
      ∙ ap (λ (cs : List Copied). images_of b.number kinds (take n cs)) (sym (sees_rest b.number kinds sent worker taking worker.end.known in_order))
      ∙ ap (λ (build : ℕ). images_of build kinds (take n worker.end.known)) (sym taking.of_build) in
      subst (AreCopies kinds log (take n (drop worker.taken (put_to b k)))) same (copies_take kinds log n (drop worker.taken (put_to b k)) rest all)

  -- what waits is what it sees in its ring
  pub waits : (known : List Copied) → worker.end.received ++ known ≡ sent → length (put_to b k) - worker.taken ≡ length known
  waits known in_order =
      let count = copies_count kinds log (put_to b k) (images_of b.number kinds sent) copies in
      let all = sent_count b.number kinds sent worker taking known in_order in
      omega (arith, count, all)

  module _ (spec : KeySpecValue) (columns : spec.kinds ≡ kinds) where
    -- the pairs that its kit holds
    pub held_pairs :
        (runs : List (List Pair)) (begun : List Pair) → HoldsPairs spec (received_images spec.kinds worker) runs begun
        → IsPermutation (all_pairs runs ++ begun) (flat_map (pairs_at_scan (scanning_of b spec) log) (take worker.taken (put_to b k)))
    held_pairs runs begun its =
        let held = subst (λ (ks : List Kind). HoldsPairs spec (received_images ks worker) runs begun) columns its in
        let same = have_same spec (received_images kinds worker) held.made _ held.have
        (copies_pairs (scanning_of b spec) kinds log (take worker.taken (put_to b k)) (received_images kinds worker) columns received_copies) in
        IsPermutation-sym _ (all_pairs runs ++ begun) (subst (λ (ps : List Pair). IsPermutation ps (all_pairs runs ++ begun)) same held.all)

    -- those that were sealed are the pairs of the first scans for it
    pub sealed_are :
        (pairs : List Pair) → HavePairs spec (sealed_images kinds worker) pairs
        → pairs ≡ flat_map (pairs_at_scan (scanning_of b spec) log) (take worker.sealed (put_to b k))
    sealed_are pairs have =
        let scans = take worker.sealed (take worker.taken (put_to b k)) in
        let copied : AreCopies kinds log scans (sealed_images kinds worker) =
        copies_take kinds log worker.sealed (take worker.taken (put_to b k)) (received_images kinds worker) received_copies in
        have_same spec (sealed_images kinds worker) pairs _ have (copies_pairs (scanning_of b spec) kinds log scans (sealed_images kinds worker) columns copied)
        ∙ ap (flat_map (pairs_at_scan (scanning_of b spec) log)) (take-take worker.sealed worker.taken (put_to b k) taking.sealed_was_taken)

    -- how many of them are in no run yet
    pub begun_is :
        (begun : List Pair) → HoldsOpen spec (unsealed_images spec.kinds worker) begun
        → length begun ≡ length (unsealed_pairs b log k (worker_state worker) spec) % 4096
    begun_is begun its =
        let opened = subst (λ (ks : List Kind). HoldsOpen spec (unsealed_images ks worker) begun) columns its in
        let unsealed : opened.last ≡ unsealed_pairs b log k (worker_state worker) spec =
        have_same spec (unsealed_images kinds worker) opened.last _ opened.since_seal
        (copies_pairs (scanning_of b spec) kinds log (drop worker.sealed (take worker.taken (put_to b k))) (unsealed_images kinds worker) columns
        (copies_drop kinds log worker.sealed (take worker.taken (put_to b k)) (received_images kinds worker) received_copies)) in
        opened.open_run ∙ ap (λ (ps : List Pair). length ps % 4096) unsealed

  module _
      (specs : List KeySpecValue) (columns : All (λ spec. spec.kinds ≡ kinds) specs) (maker : MakerValue) (many : length maker.begun ≡ length specs)
      (opened : (index : ℕ) (spec : KeySpecValue) → slice_get specs index ≡ Some spec → HoldsOpen spec (unsealed_images spec.kinds worker) (get_or maker.begun index []))
      (are : b.specs ≡ specs) where
    abbrev fills : KeySpecValue → Bool
    fills spec = fill_runs (unsealed_pairs b log k (worker_state worker) spec)

    open_is :
        (index : ℕ) (spec : KeySpecValue) → slice_get specs index ≡ Some spec
        → length (get_or maker.begun index []) ≡ length (unsealed_pairs b log k (worker_state worker) spec) % 4096
    open_is index spec at = begun_is spec (all_at (λ s. s.kinds ≡ kinds) specs index spec columns at) (get_or maker.begun index []) (opened index spec at)

    -- a worker that took all, and whose runs are closed, is sealed
    pub sealed_is : IsDone sent worker maker → is_sealed b log k (worker_state worker) ≡ true
    sealed_is sealed =
        let none : taking.rest ≡ [] = append_cancel_left worker.end.received taking.rest [] (taking.in_order ∙ sym sealed.taken ∙ sym (append-nil worker.end.received)) in
        let all : worker.taken ≡ length (put_to b k) = let rest = ap (λ (cs : List Copied). length (images_of b.number kinds cs)) none in omega (arith, counted, rest) in
        let closed : list_all fills specs ≡ true =
        all_pass fills specs (λ index spec at.
        eq-eqb (length (unsealed_pairs b log k (worker_state worker) spec) % 4096) 0
        (sym (open_is index spec at) ∙ ap (λ (ps : List Pair). length ps) (no_pair maker.begun index sealed.closed))) in
        and_from (worker.taken == length (put_to b k)) (list_all fills b.specs) (eq-eqb worker.taken (length (put_to b k)) all) (ap (list_all fills) are ∙ closed)

    -- and only such a one
    pub from_is_sealed : is_sealed b log k (worker_state worker) ≡ true → IsDone sent worker maker
    from_is_sealed is =
        let both = and_parts (worker.taken == length (put_to b k)) (list_all fills b.specs) is in
        let all : worker.taken ≡ length (put_to b k) = eqb-true worker.taken (length (put_to b k)) both.0 in
        let own = own_images b.number kinds taking.rest taking.own in
        let none : taking.rest ≡ [] = nil_from_length taking.rest (omega (arith, all, counted, own)) in
        record {
          taken = sym (append-nil worker.end.received) ∙ ap (λ cs. worker.end.received ++ cs) (sym none) ∙ taking.in_order;
          closed = no_pairs maker.begun (λ index less.
              let it = there_is specs index (omega (arith, less, many)) in
              let full = each_passes fills specs (ap (list_all fills) (sym are) ∙ both.1) index it.0 it.1 in
              nil_from_length (get_or maker.begun index [])
              (open_is index it.0 it.1 ∙ eqb-true (length (unsealed_pairs b log k (worker_state worker) it.0) % 4096) 0 full));
        }

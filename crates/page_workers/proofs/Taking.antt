-- A worker goes on taking what was put for its build.
use Rattle.std.proofs.Common.{◌≡◌, ℕ, ◌+◌, ◌%◌, ◌<◌, ◌≤◌, true, List, [], ◌∷◌, ◌++◌, length, min, take, take_all, drop, append_assoc, append-nil, refl, sym}
use Rattle.std.proofs.Common.{ap, ◌∙◌, subst, arith, length-append, take-append-drop}
use Rattle.std.specs.Prelude.{IsPermutation}
use Rattle.std.specs.List.{All}
use Rattle.std.proofs.lemmas.List.{append_cancel_left, drop-append-le, length-take, take-append-le}
use Rattle.std.proofs.Math.ListN.{drop_of_length-le}
use Rattle.std.proofs.Math.Nat.{mod-eq_of_lt}
use Rattle.std.proofs.lemmas.List.Elements.{All-head, All-tail, All-push, All-take, All-drop, All-nil}
use Rattle.std.proofs.lemmas.List.Sorted.{IsPermutation-append_left, IsPermutation-refl, IsPermutation-trans, length_permutation}
use Rattle.keybytes.specs.Keys.{KeySpecValue}
use Rattle.keybytes.specs.declared.kind.Kind.{Kind}
use Rattle.keybytes.specs.declared.pair.Pair.{Pair}
use Rattle.heap_table.specs.Images.{ImageValue}
use Rattle.run_spool.specs.Spools.{NoneEmpty, all_pairs}
use Rattle.run_maker.specs.Spooling.{Adds}
use Rattle.run_maker.proofs.Spoolings.{no_runs, runs_more}
use Rattle.page_workers.specs.declared.copied.Copied.{Copied}
use Rattle.page_workers.specs.Copies.{IsFor, is_for, images_of}
use Rattle.page_workers.specs.Holding.{HoldsClosed, HoldsPairs, HoldsOpen}
use Rattle.page_workers.specs.ImagePairs.{HavePairs}
use Rattle.side_file.specs.Ends.{TakeEnd}
use Rattle.page_workers.specs.Taking.{IsTaking, received_images, sealed_images, unsealed_images}
use Rattle.page_workers.specs.Work.{at_start, knowing, next_images, after_digest, after_seal}
use Rattle.page_workers.specs.IntakeValue.{IntakeValue}
use Rattle.page_workers.proofs.ManyPairs.{for_decides, have_append, images-append, images_none}
use Rattle.page_workers.proofs.Digests.{open_more}

-- the copies of one build and of its columns have an image each
pub own_images : (build : ℕ) (kinds : List Kind) (copies : List Copied) → All (IsFor build kinds) copies → length (images_of build kinds copies) ≡ length copies
own_images build kinds [] own = refl
own_images build kinds (copied ∷ copies) own =
    let is : is_for build kinds copied ≡ true = (for_decides build kinds copied).1 (All-head (IsFor build kinds) copied copies own) in
    let rest = own_images build kinds copies (All-tail (IsFor build kinds) copied copies own) in
    rw is (omega (arith, rest))

module _ (build : ℕ) (kinds : List Kind) (sent : List Copied) (worker : IntakeValue) (taking : IsTaking build kinds sent worker) where
  -- what it sees in the ring is what it hasn't taken
  pub sees_rest : (known : List Copied) → worker.end.received ++ known ≡ sent → known ≡ taking.rest
  sees_rest known in_order = append_cancel_left worker.end.received known taking.rest (in_order ∙ sym taking.in_order)

  -- and these copies are of its build and its columns
  pub sees_own : (known : List Copied) → worker.end.received ++ known ≡ sent → All (IsFor build kinds) known
  sees_own known in_order = subst (λ (copies : List Copied). All (IsFor build kinds) copies) (sym (sees_rest known in_order)) taking.own

  -- looking at the ring changes nothing of this
  pub looked_taking : (known : List Copied) → IsTaking build kinds sent (knowing known worker)
  looked_taking known = record {
    of_build = taking.of_build;
    rest = taking.rest;
    in_order = taking.in_order;
    own = taking.own;
    taken = taking.taken;
    sealed_was_taken = taking.sealed_was_taken;
  }

  -- one copy more is put
  pub put_taking : (copied : Copied) → IsFor build kinds copied → IsTaking build kinds (sent ++ copied ∷ []) worker
  put_taking copied is = record {
    of_build = taking.of_build;
    rest = taking.rest ++ copied ∷ [];
    in_order = sym (append_assoc worker.end.received taking.rest (copied ∷ [])) ∙ ap (λ copies. copies ++ copied ∷ []) taking.in_order;
    own = All-push (IsFor build kinds) taking.rest copied taking.own is;
    taken = taking.taken;
    sealed_was_taken = taking.sealed_was_taken;
  }

  -- what it took is sealed
  pub sealed_taking : IsTaking build kinds sent (after_seal worker)
  sealed_taking = record {
    of_build = taking.of_build;
    rest = taking.rest;
    in_order = taking.in_order;
    own = taking.own;
    taken = taking.taken;
    sealed_was_taken = omega arith;
  }

  -- how many images of its build were put
  pub sent_count : (known : List Copied) → worker.end.received ++ known ≡ sent → length (images_of build kinds sent) ≡ worker.taken + length known
  sent_count known in_order =
      let all = ap (images_of build kinds) (sym in_order) ∙ images-append build kinds worker.end.received known in
      let own = own_images build kinds known (sees_own known in_order) in
      let received : length (images_of build kinds worker.end.received) ≡ length (received_images kinds worker) =
      ap (λ n. length (images_of n kinds worker.end.received)) (sym taking.of_build) in
      omega (arith, ap length all, length-append (images_of build kinds worker.end.received) (images_of build kinds known), own, received, taking.taken)

  module _ (n : ℕ) (in_order : worker.end.received ++ worker.end.known ≡ sent) where
    -- it has an image of its build for each copy that it sees
    pub next_count : length (next_images n kinds worker) ≡ min n (length worker.end.known)
    next_count =
        let own = All-take (IsFor build kinds) n worker.end.known (sees_own worker.end.known in_order) in
        let count = own_images build kinds (take n worker.end.known) own in
        let taken = length-take n worker.end.known in
        let here : length (next_images n kinds worker) ≡ length (images_of build kinds (take n worker.end.known)) =
        ap (λ b. length (images_of b kinds (take n worker.end.known))) taking.of_build in
        omega (arith, count, taken, here)

    -- it takes the next copies
    pub digested_taking : IsTaking build kinds sent (after_digest n kinds worker)
    digested_taking =
        let images : received_images kinds (after_digest n kinds worker) ≡ received_images kinds worker ++ next_images n kinds worker =
        images-append worker.build kinds worker.end.received (take n worker.end.known) in
        let count = length-append (received_images kinds worker) (next_images n kinds worker) in
        record {
          of_build = taking.of_build;
          rest = drop n worker.end.known;
          in_order = append_assoc worker.end.received (take n worker.end.known) (drop n worker.end.known)
              ∙ (ap (λ copies. worker.end.received ++ copies) (take-append-drop n worker.end.known) ∙ in_order);
          own = All-drop (IsFor build kinds) n worker.end.known (sees_own worker.end.known in_order);
          taken = omega (arith, taking.taken, ap length images, count);
          sealed_was_taken = omega (arith, taking.sealed_was_taken);
        }

-- a build begins, of which nothing was put
pub start_taking :
    (build : ℕ) (kinds : List Kind) (end : TakeEnd Copied) → All (λ copied. copied.build < build) end.received
    → IsTaking build kinds end.received (at_start build end)
start_taking build kinds end before = record {
  of_build = refl;
  rest = [];
  in_order = append-nil end.received;
  own = All-nil (IsFor build kinds);
  taken = sym (ap length (images_none build kinds end.received before));
  sealed_was_taken = omega arith;
}

-- and nothing of it is held
pub start_holds :
    (build : ℕ) (kinds : List Kind) (spec : KeySpecValue) (end : TakeEnd Copied) → All (λ copied. copied.build < build) end.received
    → HoldsPairs spec (received_images kinds (at_start build end)) [] []
start_holds build kinds spec end before = record {
  made = [];
  have = subst (λ (images : List ImageValue). HavePairs spec images []) (sym (images_none build kinds end.received before)) refl;
  all = IsPermutation-refl [];
}

-- in closed runs or in none
pub start_open :
    (build : ℕ) (kinds : List Kind) (spec : KeySpecValue) (end : TakeEnd Copied) → All (λ copied. copied.build < build) end.received
    → HoldsOpen spec (unsealed_images kinds (at_start build end)) []
start_open build kinds spec end before = record {
  last = [];
  since_seal = subst (λ (images : List ImageValue). HavePairs spec images []) (sym (images_none build kinds end.received before)) refl;
  open_run = refl;
}

-- and no run is closed
pub start_closed :
    (spec : KeySpecValue) (kinds : List Kind) (worker : IntakeValue) → All (λ copied. copied.build < worker.build) worker.end.received
    → HoldsClosed spec (sealed_images kinds worker) []
start_closed spec kinds worker before =
    let none : sealed_images kinds worker ≡ [] = ap (take worker.sealed) (images_none worker.build kinds worker.end.received before) ∙ take_all worker.sealed [] (omega arith) in
    record {
      earlier = [];
      none_empty = All-nil (λ run. 0 < length run);
      since_seal = no_runs [] [] refl;
      pairs = [];
      of_sealed = subst (λ (images : List ImageValue). HavePairs spec images []) (sym none) refl;
      as_many = refl;
    }

module _ (spec : KeySpecValue) (n : ℕ) (kinds : List Kind) (worker : IntakeValue) where
  -- the images that it received, with the next ones behind them
  received_more : received_images kinds (after_digest n kinds worker) ≡ received_images kinds worker ++ next_images n kinds worker
  received_more = images-append worker.build kinds worker.end.received (take n worker.end.known)

  -- the pairs of the next copies are held too
  pub digested_holds :
      (old_runs : List (List Pair)) (begun : List Pair) (runs : List (List Pair)) (new_begun made : List Pair)
      → HoldsPairs spec (received_images kinds worker) old_runs begun → HavePairs spec (next_images n kinds worker) made → Adds made old_runs begun runs new_begun
      → HoldsPairs spec (received_images kinds (after_digest n kinds worker)) runs new_begun
  digested_holds old_runs begun runs new_begun made holds have adds = record {
    made = holds.made ++ made;
    have = subst (λ (images : List ImageValue). HavePairs spec images (holds.made ++ made)) (sym received_more)
        (have_append spec (received_images kinds worker) (next_images n kinds worker) holds.made made holds.have have);
    all = IsPermutation-trans _ _ _ (IsPermutation-append_left made holds.made (all_pairs old_runs ++ begun) holds.all) adds.all;
  }

  -- after a seal all in closed runs
  pub sealed_holds :
      (old_runs : List (List Pair)) (begun : List Pair) (runs : List (List Pair)) (made : List Pair)
      → HoldsPairs spec (received_images kinds worker) old_runs begun → HavePairs spec (next_images n kinds worker) made
      → IsPermutation ((all_pairs old_runs ++ begun) ++ made) (all_pairs runs ++ [])
      → HoldsPairs spec (received_images kinds (after_seal (after_digest n kinds worker))) runs []
  sealed_holds old_runs begun runs made holds have all = record {
    made = holds.made ++ made;
    have = subst (λ (images : List ImageValue). HavePairs spec images (holds.made ++ made)) (sym received_more)
        (have_append spec (received_images kinds worker) (next_images n kinds worker) holds.made made holds.have have);
    all = IsPermutation-trans _ _ _ (IsPermutation-append_left made holds.made (all_pairs old_runs ++ begun) holds.all) all;
  }

  -- of those since the last seal the next copies' pairs fill the run that was open, or stay in it
  pub digested_open :
      (old_runs : List (List Pair)) (begun : List Pair) (runs : List (List Pair)) (new_begun made : List Pair)
      → worker.taken ≡ length (received_images kinds worker) → worker.sealed ≤ worker.taken
      → HoldsOpen spec (unsealed_images kinds worker) begun → HavePairs spec (next_images n kinds worker) made → Adds made old_runs begun runs new_begun
      → length new_begun < 4096
      → HoldsOpen spec (unsealed_images kinds (after_digest n kinds worker)) new_begun
  digested_open old_runs begun runs new_begun made taken sealed holds have adds short =
      let later : unsealed_images kinds (after_digest n kinds worker) ≡ unsealed_images kinds worker ++ next_images n kinds worker =
      ap (drop worker.sealed) received_more ∙ drop-append-le worker.sealed (received_images kinds worker) (next_images n kinds worker) (omega (arith, taken, sealed)) in
      record {
        last = holds.last ++ made;
        since_seal = subst (λ (images : List ImageValue). HavePairs spec images (holds.last ++ made)) (sym later)
            (have_append spec (unsealed_images kinds worker) (next_images n kinds worker) holds.last made holds.since_seal have);
        open_run = sym (mod-eq_of_lt short) ∙ (adds.count ∙ (ap (λ k. (k + length made) % 4096) holds.open_run
            ∙ (open_more (length holds.last) (length made) ∙ ap (λ k. k % 4096) (sym (length-append holds.last made)))));
      }

  -- a digest closes full runs alone
  pub digested_closed :
      (old_runs : List (List Pair)) (begun : List Pair) (runs : List (List Pair)) (new_begun made : List Pair)
      → worker.taken ≡ length (received_images kinds worker) → worker.sealed ≤ worker.taken
      → HoldsClosed spec (sealed_images kinds worker) old_runs → Adds made old_runs begun runs new_begun
      → HoldsClosed spec (sealed_images kinds (after_digest n kinds worker)) runs
  digested_closed old_runs begun runs new_begun made taken sealed holds adds =
      let same : sealed_images kinds (after_digest n kinds worker) ≡ sealed_images kinds worker =
      ap (take worker.sealed) received_more ∙ take-append-le worker.sealed (received_images kinds worker) (next_images n kinds worker) (omega (arith, taken, sealed)) in
      record {
        earlier = holds.earlier;
        none_empty = holds.none_empty;
        since_seal = runs_more holds.earlier old_runs runs holds.since_seal adds.full_runs;
        pairs = holds.pairs;
        of_sealed = subst (λ (images : List ImageValue). HavePairs spec images holds.pairs) (sym same) holds.of_sealed;
        as_many = holds.as_many;
      }

  -- after a seal all closed runs are those of before
  pub sealed_closed :
      (runs : List (List Pair)) → NoneEmpty runs → worker.taken ≡ length (received_images kinds worker)
      → HoldsPairs spec (received_images kinds (after_seal (after_digest n kinds worker))) runs []
      → HoldsClosed spec (sealed_images kinds (after_seal (after_digest n kinds worker))) runs
  sealed_closed runs full taken holds =
      let images = received_images kinds (after_digest n kinds worker) in
      let long : length images ≡ worker.taken + length (next_images n kinds worker) =
      omega (arith, taken, ap length received_more, length-append (received_images kinds worker) (next_images n kinds worker)) in
      let all : sealed_images kinds (after_seal (after_digest n kinds worker)) ≡ images =
      take_all (worker.taken + length (next_images n kinds worker)) images (omega (arith, long)) in
      record {
        earlier = runs;
        none_empty = full;
        since_seal = no_runs runs runs refl;
        pairs = holds.made;
        of_sealed = subst (λ (xs : List ImageValue). HavePairs spec xs holds.made) (sym all) holds.have;
        as_many = omega (arith, length_permutation holds.made (all_pairs runs ++ []) holds.all, ap length (append-nil (all_pairs runs)));
      }

  -- after a seal no pair is in no run
  pub sealed_open : worker.taken ≡ length (received_images kinds worker) → HoldsOpen spec (unsealed_images kinds (after_seal (after_digest n kinds worker))) []
  sealed_open taken =
      let all : length (received_images kinds (after_digest n kinds worker)) ≤ worker.taken + length (next_images n kinds worker) =
      omega (arith, taken, ap length received_more, length-append (received_images kinds worker) (next_images n kinds worker)) in
      let none : unsealed_images kinds (after_seal (after_digest n kinds worker)) ≡ [] = drop_of_length-le (received_images kinds (after_digest n kinds worker)) all in
      record {
        last = [];
        since_seal = subst (λ (images : List ImageValue). HavePairs spec images []) (sym none) refl;
        open_run = refl;
      }

-- the image of one copy, of that build and of these columns
pub own_image_of : (build : ℕ) (kinds : List Kind) (copied : Copied) → IsFor build kinds copied → images_of build kinds (copied ∷ []) ≡ copied.image ∷ []
own_image_of build kinds copied is =
    let own : is_for build kinds copied ≡ true = (for_decides build kinds copied).1 is in
    rw own refl

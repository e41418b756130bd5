-- A spool that is full of pairs that were given for it.
use Rattle.std.proofs.Common.{All, ◌≡◌, ◌<◌, ◌≤◌, ◌+◌, get_or, ℕ, List, [], ◌∷◌, ◌++◌, append_assoc, append-nil, length, length-append, map, reverse, set, Some, sym, ap, ◌∙◌, subst, arith}
use Rattle.std.specs.Prelude.{IsPermutation}
use Rattle.std.specs.List.Sorted.{IsSorted}
use Rattle.keybytes.specs.Pairs.{pair_cmp}
use Rattle.std.proofs.lemmas.List.{get_or_append_left, get_or-map, get_or-set_same, length-map, length-set, reverse-append, reverse-reverse}
use Rattle.std.proofs.lemmas.List.Sorted.{IsPermutation-append_left, IsPermutation-append_right, IsPermutation-refl, IsPermutation-sym, IsPermutation-trans, length_permutation}
use Rattle.std.proofs.lemmas.Option.{get_or_from_slice_get, slice_get-get_or, slice_get_within}
use Rattle.keybytes.specs.declared.pair.Pair.{Pair}
use Rattle.run_spool.specs.Spools.{AreSorted, IsFullIntact, NoneFreed, all_pairs}
use Rattle.run_maker.specs.FullSpools.{AreSomeOf, HasFullOf, IsFullOf, WantsRun}
use Rattle.run_maker.specs.Spooling.{HasFullRunsMore}
use Rattle.run_maker.proofs.Spoolings.{no_runs, runs_more}

-- all of the pairs, in any order
pub all_of : (pairs all : List Pair) → IsPermutation pairs all → AreSomeOf pairs all
all_of pairs all same = ([], subst (λ (ps : List Pair). IsPermutation ps all) (sym (append-nil pairs)) same)

-- the first of them
pub first_of : (pairs others all : List Pair) → all ≡ pairs ++ others → AreSomeOf pairs all
first_of pairs others all is = (others, subst (IsPermutation (pairs ++ others)) (sym is) (IsPermutation-refl (pairs ++ others)))

-- some of some of them
pub some_of_some : (some more all : List Pair) → AreSomeOf some more → AreSomeOf more all → AreSomeOf some all
some_of_some some more all first then = (
  first.0 ++ then.0,
  subst (λ (ps : List Pair). IsPermutation ps all) (append_assoc some first.0 then.0)
      (IsPermutation-trans _ _ _ (IsPermutation-append_left then.0 (some ++ first.0) more first.1) then.1),
)

-- the first of some pairs are in order if all are
sorted_front : (front rest : List Pair) → IsSorted pair_cmp (front ++ rest) → IsSorted pair_cmp front
sorted_front front rest up = λ k d low less.
    let second : get_or (front ++ rest) (k + 1) d ≡ get_or front (k + 1) d = get_or_append_left front rest d (k + 1) less in
    let first : get_or (front ++ rest) k d ≡ get_or front k d = get_or_append_left front rest d k (omega (arith, less)) in
    rw (sym second, sym first) (up k d low (omega (arith, less, length-append front rest)))

-- a run that is spooled in order stops at a pair: those before it are in the open run, and those behind it are left
pub stops_at :
    (old now : List (List Pair)) (pairs sorted turned run begun left rest : List Pair) (pair : Pair) → now ≡ old → begun ≡ run → IsPermutation pairs sorted
    → turned ≡ reverse sorted → run ++ reverse left ≡ reverse turned → left ≡ rest ++ pair ∷ []
    → AreSomeOf ((all_pairs now ++ begun) ++ pair ∷ []) (all_pairs old ++ pairs)
stops_at old now pairs sorted turned run begun left rest pair same_runs same_run same is moved last =
    let held = all_pairs old in
    let in_order : run ++ pair ∷ reverse rest ≡ sorted =
    ap (λ (ps : List Pair). run ++ ps) (sym (ap reverse last ∙ reverse-append rest (pair ∷ []))) ∙ moved ∙ ap reverse is ∙ reverse-reverse sorted in
    let all : ((held ++ run) ++ pair ∷ []) ++ reverse rest ≡ held ++ sorted =
    append_assoc (held ++ run) (pair ∷ []) (reverse rest) ∙ append_assoc held run (pair ∷ reverse rest) ∙ ap (λ (ps : List Pair). held ++ ps) in_order in
    rw (same_runs, same_run) (
      reverse rest,
      subst (λ (ps : List Pair). IsPermutation ps (held ++ pairs)) (sym all) (IsPermutation-append_right held sorted pairs (IsPermutation-sym pairs sorted same)),
    )

-- those before it and that pair stand in the order of the run
pub stops_in_order :
    (sorted turned run begun left rest : List Pair) (pair : Pair) → begun ≡ run → IsSorted pair_cmp sorted → turned ≡ reverse sorted
    → run ++ reverse left ≡ reverse turned → left ≡ rest ++ pair ∷ [] → IsSorted pair_cmp (begun ++ pair ∷ [])
stops_in_order sorted turned run begun left rest pair same_run up is moved last =
    let in_order : run ++ pair ∷ reverse rest ≡ sorted =
    ap (λ (ps : List Pair). run ++ ps) (sym (ap reverse last ∙ reverse-append rest (pair ∷ []))) ∙ moved ∙ ap reverse is ∙ reverse-reverse sorted in
    let all : (run ++ pair ∷ []) ++ reverse rest ≡ sorted = append_assoc run (pair ∷ []) (reverse rest) ∙ in_order in
    rw same_run (sorted_front (run ++ pair ∷ []) (reverse rest) (subst (IsSorted pair_cmp) (sym all) up))

-- they are no more than were to be spooled
pub stops_within :
    (pairs sorted turned run begun left rest : List Pair) (pair : Pair) (most : ℕ) → begun ≡ run → IsPermutation pairs sorted → turned ≡ reverse sorted
    → run ++ reverse left ≡ reverse turned → left ≡ rest ++ pair ∷ [] → length pairs ≤ most → length (begun ++ pair ∷ []) ≤ most
stops_within pairs sorted turned run begun left rest pair most same_run same is moved last few =
    let in_order : run ++ pair ∷ reverse rest ≡ sorted =
    ap (λ (ps : List Pair). run ++ ps) (sym (ap reverse last ∙ reverse-append rest (pair ∷ []))) ∙ moved ∙ ap reverse is ∙ reverse-reverse sorted in
    let long = ap length in_order in
    let many = length-append run (pair ∷ reverse rest) in
    let all = length_permutation pairs sorted same in
    let here = length-append run (pair ∷ []) in
    rw same_run (omega (arith, few, long, many, all, here))

-- so many of the pairs of a spool that closed no run are in none
pub wants_run :
    (least : ℕ) (old now : List (List Pair)) (begun made : List Pair) → now ≡ old → least ≤ length begun + length made → WantsRun least old ((all_pairs old ++ begun) ++ made) now
wants_run least old now begun made same some = record {
  closed = no_runs old now same;
  left = omega (
    arith,
    some,
    ap (λ (rs : List (List Pair)). length (all_pairs rs)) same,
    length-append (all_pairs old ++ begun) made,
    length-append (all_pairs old) begun,
  );
}

-- no pair more was made
pub wants_begun :
    (least : ℕ) (old now : List (List Pair)) (begun : List Pair) → now ≡ old → least ≤ length begun → WantsRun least old (all_pairs old ++ begun) now
wants_begun least old now begun same some =
    let wants = wants_run least old now begun [] same (omega (arith, some)) in
    subst (λ (ps : List Pair). WantsRun least old ps now) (append-nil (all_pairs old ++ begun)) wants

-- of more pairs at least as many are, also counted from earlier runs
pub wants_of_more :
    (least lower : ℕ) (start middle : List (List Pair)) (pairs more : List Pair) (now : List (List Pair)) → lower ≤ least → HasFullRunsMore start middle
    → AreSomeOf pairs more → WantsRun least middle pairs now → WantsRun lower start more now
wants_of_more least lower start middle pairs more now less before some wants = record {
  closed = runs_more start middle now before wants.closed;
  left = omega (arith, less, wants.left, length-append pairs some.0, length_permutation (pairs ++ some.0) more some.1);
}

module _ {S : Type 0} (is_full : S → Pair → Type 0) (runs : S → List (List Pair)) (open_run : S → List Pair) where
  -- the pairs are some of more
  pub full_of_more : (pairs more : List Pair) (spool : S) → AreSomeOf pairs more → IsFullOf is_full runs open_run pairs spool → IsFullOf is_full runs open_run more spool
  full_of_more pairs more spool some is = record { pair = is.pair; held = some_of_some _ pairs more is.held some; in_order = is.in_order; few = is.few; full = is.full }

  -- and no pair of it was freed, and its runs are in order, as with all of them
  pub full_intact :
      (is_intact : S → Type 0) (least : ℕ) (old : List (List (List Pair))) (given : ℕ → List Pair → Type 0) (spools : List S)
      → All (NoneFreed is_intact runs) spools → All AreSorted (map runs spools) → HasFullOf is_full runs open_run least old given spools
      → HasFullOf (IsFullIntact is_full is_intact runs) runs open_run least old given spools
  full_intact is_intact least old given spools none sorted has =
      let within = slice_get_within spools has.index has.spool has.there in
      let free : NoneFreed is_intact runs has.spool =
      subst (NoneFreed is_intact runs) (get_or_from_slice_get spools has.index has.spool has.spool has.there) (none has.index has.spool within) in
      let up : AreSorted (runs has.spool) =
      subst AreSorted (get_or-map runs spools has.index has.spool [] within ∙ ap runs (get_or_from_slice_get spools has.index has.spool has.spool has.there))
      (sorted has.index [] (omega (arith, within, length-map spools runs))) in
      record {
        index = has.index;
        spool = has.spool;
        there = has.there;
        pairs = has.pairs;
        given = has.given;
        full = record { pair = has.full.pair; held = has.full.held; in_order = has.full.in_order; few = has.full.few; full = (has.full.full, free, up) };
        wants = has.wants;
      }

  -- so it is where what is given for an index is a part of what is given in another way, and only full runs were closed before
  pub full_given :
      (least lower : ℕ) (start middle : List (List (List Pair))) (spools : List S) (given other : ℕ → List Pair → Type 0) → lower ≤ least
      → ((i : ℕ) → i < length spools → HasFullRunsMore (get_or start i []) (get_or middle i [])) → ((i : ℕ) (pairs : List Pair) → i < length spools → given i pairs → (more : List Pair) × other i more × AreSomeOf pairs more)
      → HasFullOf is_full runs open_run least middle given spools → HasFullOf is_full runs open_run lower start other spools
  full_given least lower start middle spools given other less before also has =
      let within = slice_get_within spools has.index has.spool has.there in
      let more = also has.index has.pairs within has.given in
      record {
        index = has.index;
        spool = has.spool;
        there = has.there;
        pairs = more.0;
        given = more.1;
        full = full_of_more has.pairs more.0 has.spool more.2 has.full;
        wants = wants_of_more least lower (get_or start has.index []) (get_or middle has.index []) has.pairs more.0 (runs has.spool) less (before has.index within)
            more.2 has.wants;
      }

  -- a spool that is full in place of another
  pub full_after :
      (least : ℕ) (old : List (List (List Pair))) (given : ℕ → List Pair → Type 0) (pairs : List Pair) (spools : List S) (i : ℕ) (spool : S) → i < length spools → given i pairs
      → IsFullOf is_full runs open_run pairs spool → WantsRun least (get_or old i []) pairs (runs spool)
      → HasFullOf is_full runs open_run least old given (set spools i spool)
  full_after least old given pairs spools i spool lt are full wants = record {
    index = i;
    spool = spool;
    there = slice_get-get_or (set spools i spool) i spool (omega (arith, lt, length-set spools i spool)) ∙ ap Some (get_or-set_same spools i spool spool lt);
    pairs = pairs;
    given = are;
    full = full;
    wants = wants;
  }

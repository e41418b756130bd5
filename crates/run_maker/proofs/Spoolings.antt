-- What a run that is spooled leaves, and pairs that are held one after another.
use Rattle.std.proofs.Common.{◌≡◌, ℕ, ◌+◌, ◌%◌, ◌<◌, List, [], ◌∷◌, ◌++◌, length, reverse, append_assoc, append-nil, refl, sym, ap, ◌∙◌, arith, inl, inr}
use Rattle.std.specs.Prelude.{Result, Ok, Err, OnOk, Contains}
use Rattle.std.specs.List.Sorted.{IsSorted}
use Rattle.std.proofs.lemmas.List.{length_push, length-append, reverse-reverse}
use Rattle.std.proofs.lemmas.List.Elements.{All-append, All-contains, All-contains_itself, All-nil, All-push, All-weaker, Contains-append_cases, Contains-append_left, Contains-append_right}
use Rattle.std.proofs.lemmas.List.Sorted.{IsPermutation-append_left, IsPermutation-append_right, IsPermutation-refl, IsPermutation-trans, length_permutation}
use Rattle.std.proofs.lemmas.Grind.{flat_map-append}
use Rattle.keybytes.specs.Pairs.{pair_cmp}
use Rattle.keybytes.specs.declared.pair.Pair.{Pair}
use Rattle.run_spool.specs.Spools.{AreSorted, NoneFreed, all_pairs, with_closed_run}
use Rattle.run_maker.specs.Spooling.{HasFullRunsMore, Spooled, Adds}

-- a run in order more
pub closed_sorted : (runs : List (List Pair)) (run : List Pair) → IsSorted pair_cmp run → AreSorted runs → AreSorted (with_closed_run runs run)
closed_sorted runs [] up all = all
closed_sorted runs (first ∷ run) up all = All-push (λ r. IsSorted pair_cmp r) runs (first ∷ run) all up

-- no pair is freed of a spool with the same runs
pub still_intact :
    {S : Type 0} (is_intact : S → Type 0) (runs : S → List (List Pair)) (old new : S) → runs new ≡ runs old → (is_intact old → is_intact new)
    → NoneFreed is_intact runs old → NoneFreed is_intact runs new
still_intact is_intact runs old new same keeps free = elim free [
  | inl none ↦ inl (same ∙ none)
  | inr intact ↦ inr (keeps intact)
]

-- a run more has its pairs more
pub all_closed : (runs : List (List Pair)) (run : List Pair) → all_pairs (with_closed_run runs run) ≡ all_pairs runs ++ run
all_closed runs [] = sym (append-nil (all_pairs runs))
all_closed runs (first ∷ run) =
    flat_map-append (λ (r : List Pair). r) runs ((first ∷ run) ∷ []) ∙ ap (λ (r : List Pair). all_pairs runs ++ r) (append-nil (first ∷ run))

-- a run of some pairs is one run more
pub one_closed : (runs : List (List Pair)) (run : List Pair) → 0 < length run → length (with_closed_run runs run) ≡ length runs + 1
one_closed runs [] some = absurd (omega arith)
one_closed runs (first ∷ run) some = length_push runs (first ∷ run)

-- it stands behind the runs that were there
closed_behind : (runs : List (List Pair)) (run : List Pair) → 0 < length run → with_closed_run runs run ≡ runs ++ run ∷ []
closed_behind runs [] some = absurd (omega arith)
closed_behind runs (first ∷ run) some = refl

-- no run more
pub no_runs : (old now : List (List Pair)) → now ≡ old → HasFullRunsMore old now
no_runs old now same = ([], same ∙ sym (append-nil old), All-nil (λ run. length run ≡ 4096))

-- a full run more
one_run : (old now : List (List Pair)) (run : List Pair) → now ≡ with_closed_run old run → length run ≡ 4096 → HasFullRunsMore old now
one_run old now run closed full = (run ∷ [], closed ∙ closed_behind old run (omega (arith, full)), All-push (λ r. length r ≡ 4096) [] run (All-nil (λ r. length r ≡ 4096)) full)

-- full runs, and then more of them
pub runs_more : (first middle last : List (List Pair)) → HasFullRunsMore first middle → HasFullRunsMore middle last → HasFullRunsMore first last
runs_more first middle last was then = (
  was.0 ++ then.0,
  then.1 ∙ ap (λ (rs : List (List Pair)). rs ++ then.0) was.1 ∙ append_assoc first was.0 then.0,
  All-append (λ run. length run ≡ 4096) was.0 then.0 was.2 then.2,
)

-- the pair that makes a run full
pub spooled_adds : (old new : List (List Pair)) (begun : List Pair) (pair : Pair) (pairs : List Pair) → pairs ≡ begun ++ pair ∷ [] → length pairs ≡ 4096
    → Spooled pairs old new
    → Adds (pair ∷ []) old begun new []
spooled_adds old new begun pair pairs is full s =
    let whole : all_pairs new ++ [] ≡ all_pairs old ++ s.run = append-nil (all_pairs new) ∙ (ap all_pairs s.closed ∙ all_closed old s.run) in
    let held : (all_pairs old ++ begun) ++ pair ∷ [] ≡ all_pairs old ++ pairs =
    append_assoc (all_pairs old) begun (pair ∷ []) ∙ ap (λ (ps : List Pair). all_pairs old ++ ps) (sym is) in
    let long : length begun + 1 ≡ 4096 = omega (arith, full, ap length is, length_push begun pair) in
    let some : 0 < length s.run = omega (arith, full, length_permutation pairs s.run s.same) in
    record {
      all = rw (held, whole) (IsPermutation-append_right (all_pairs old) pairs s.run s.same);
      kept = All-nil (Contains (begun ++ pair ∷ []));
      count = sym (ap (λ (n : ℕ). n % 4096) long);
      full_runs = one_run old new s.run s.closed (length_permutation pairs s.run s.same ∙ full);
      runs_many = omega (arith, long, ap length s.closed, one_closed old s.run some);
    }

-- no pair more
pub adds_none : (runs : List (List Pair)) (begun : List Pair) → Adds [] runs begun runs begun
adds_none runs begun = record {
  all = rw (append-nil (all_pairs runs ++ begun)) (IsPermutation-refl (all_pairs runs ++ begun));
  kept = rw (append-nil begun) (All-contains_itself begun);
  count = omega arith;
  full_runs = no_runs runs runs refl;
  runs_many = omega arith;
}

-- a pair more that doesn't make a run full
pub one_begun : (runs : List (List Pair)) (begun : List Pair) (pair : Pair) → Adds (pair ∷ []) runs begun runs (begun ++ pair ∷ [])
one_begun runs begun pair = record {
  all = rw (append_assoc (all_pairs runs) begun (pair ∷ [])) (IsPermutation-refl (all_pairs runs ++ (begun ++ pair ∷ [])));
  kept = All-contains_itself (begun ++ pair ∷ []);
  count = ap (λ (n : ℕ). n % 4096) (length_push begun pair);
  full_runs = no_runs runs runs refl;
  runs_many = omega (arith, length_push begun pair);
}

-- pairs, and then more
pub adds_more : (made more : List Pair) (runs0 : List (List Pair)) (begun0 : List Pair) (runs1 : List (List Pair)) (begun1 : List Pair)
    (runs2 : List (List Pair)) (begun2 : List Pair)
    → Adds made runs0 begun0 runs1 begun1 → Adds more runs1 begun1 runs2 begun2 → Adds (made ++ more) runs0 begun0 runs2 begun2
adds_more made more runs0 begun0 runs1 begun1 runs2 begun2 first then =
    let start = all_pairs runs0 ++ begun0 in
    let middle = all_pairs runs1 ++ begun1 in
    let was : (pair : Pair) → Contains (begun1 ++ more) pair → Contains ((begun0 ++ made) ++ more) pair =
    λ pair now. elim (Contains-append_cases begun1 more pair now) [
      | inl before ↦
          Contains-append_left (begun0 ++ made) more pair (All-contains (Contains (begun0 ++ made)) begun1 pair first.kept before)
      | inr after ↦ Contains-append_right (begun0 ++ made) more pair after
    ] in
    record {
      all = rw (← append_assoc start made more)
          (IsPermutation-trans _ _ _ (IsPermutation-append_left more (start ++ made) middle first.all) then.all);
      kept = rw (← append_assoc begun0 made more) (All-weaker (Contains (begun1 ++ more)) (Contains ((begun0 ++ made) ++ more)) was begun2 then.kept);
      count = omega (arith, first.count, then.count, length-append made more);
      full_runs = runs_more runs0 runs1 runs2 first.full_runs then.full_runs;
      runs_many = omega (arith, first.runs_many, then.runs_many, length-append made more);
    }

-- what is taken from the end of a list that is turned round comes in the list's order
pub moved_all : (run sorted turned left : List Pair) → left ≡ [] → turned ≡ reverse sorted → run ++ reverse left ≡ reverse turned → run ≡ sorted
moved_all run sorted turned left none is moved =
    sym (append-nil run) ∙ (ap (λ (ps : List Pair). run ++ reverse ps) (sym none) ∙ (moved ∙ (ap reverse is ∙ reverse-reverse sorted)))

-- what two clauses on one result say together
pub both_ok : {T E P Q R : Type 0} (r : Result T E) → (P → Q → R) → OnOk r P → OnOk r Q → OnOk r R
both_ok (Ok x) f p q = f p q
both_ok (Err e) f p q = tt

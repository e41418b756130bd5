-- The lanes of a merge: how they start, what the first head says of all pairs, and what one step leaves.
use Rattle.std.proofs.Common.{◌≡◌, ◌≢◌, ℕ, zero, suc, ◌+◌, ◌<◌, ◌==◌, ◌||◌, Bool, true, false, List, [], ◌∷◌}
use Rattle.std.proofs.Common.{◌++◌, All, length, get_or, set, drop, take, refl, sym, ap, ◌∙◌, subst, arith, inl, inr}
use Rattle.std.specs.Prelude.{Option, Some, None, IsSome, slice_get, count_by}
use Rattle.std.specs.List.{list_any}
use Rattle.std.specs.List.Sorted.{IsSorted, IsPermutation}
use Rattle.std.proofs.lemmas.Bool.{cases_eq, cases_lt, lt-ltb, le-ltb, eqb-true, false≢true, false_from_ne_true}
use Rattle.std.proofs.lemmas.Bool.Decides.{nat_tests}
use Rattle.std.proofs.lemmas.List.Folds.{list_any_at}
use Rattle.std.proofs.lemmas.List.{get_or-set_other, get_or-set_same, length-set, get_or-drop}
use Rattle.std.proofs.lemmas.List.{get_or_push, get_or_append_left, length_push, length-drop, nil_from_length}
use Rattle.std.proofs.lemmas.List.Elements.{All-append, All-get_or, All-set, All-nil}
use Rattle.std.proofs.lemmas.List.Sorted.{IsPermutation-refl, IsPermutation-append_left, IsPermutation-append_right}
use Rattle.std.proofs.lemmas.List.Sorted.{IsPermutation-trans, IsPermutation-middle, sorted_far}
use Rattle.std.proofs.lemmas.List.Sums.{count_by_more_no, count_by_more_yes}
use Rattle.std.proofs.lemmas.Option.{slice_get-get_or, slice_get_past}
use Rattle.keybytes.specs.Pairs.{pair_cmp}
use Rattle.run_merge.specs.Leading.{is_before, is_ahead, MayLead, HeadsValue, AllDone, NoneDone, IsFirst}
use Rattle.run_spool.specs.Spools.{AreSorted, all_pairs}
use Rattle.run_merge.specs.Merging.{has_pair, IsLeast, Gives, head_of, IsMerge, IsStart, AreSeconds}
use Rattle.keybytes.specs.declared.pair.Pair.{Pair}
use Rattle.run_merge.proofs.Order.{before_order}

-- as long as no run is looked at there is no lane
pub start_none : (runs : List (List Pair)) → IsStart runs [] [] 0
start_none runs = record {
  long = refl;
  inside = λ k lt. absurd (omega (arith, lt));
  apart = λ j k below lt. absurd (omega (arith, lt));
  at = λ k lt. absurd (omega (arith, lt));
  cover = λ i lt some. absurd (omega (arith, lt));
}

-- a run without a pair needs no lane
pub start_same : (runs : List (List Pair)) (lanes : List ℕ) (heads : List (Option Pair)) (i : ℕ) → IsStart runs lanes heads i → length (get_or runs i []) ≡ 0
    → IsStart runs lanes heads (i + 1)
start_same runs lanes heads i was none = record {
  long = was.long;
  inside = λ k lt. omega (arith, was.inside k lt);
  apart = was.apart;
  at = was.at;
  cover = λ j lt some.
      elim (cases_lt j i) [
        | inl before ↦ was.cover j before some
        | inr here ↦ absurd (let e : j ≡ i = omega (arith, here, lt) in omega (arith, some, none, ap (λ (n : ℕ). length (get_or runs n [])) e))
      ];
}

-- a run with a pair gets the next lane
pub start_more : (runs : List (List Pair)) (lanes : List ℕ) (heads : List (Option Pair)) (i : ℕ) (pair : Pair) → IsStart runs lanes heads i
    → slice_get (get_or runs i []) 0 ≡ Some pair
    → IsStart runs (lanes ++ i ∷ []) (heads ++ Some pair ∷ []) (i + 1)
start_more runs lanes heads i pair was is =
    let last : get_or (lanes ++ i ∷ []) (length lanes) 0 ≡ i = get_or_push lanes i 0 (length lanes) refl in
    let old : (k : ℕ) → k < length lanes → get_or (lanes ++ i ∷ []) k 0 ≡ get_or lanes k 0 = λ k lt. get_or_append_left lanes (i ∷ []) 0 k lt in
    let lane : (k : ℕ) → k < length (lanes ++ i ∷ []) → k ≢ length lanes → k < length lanes = λ k lt ne. omega (arith, lt, length_push lanes i, ne) in
    record {
      long = length_push heads (Some pair) ∙ (ap (λ n. n + 1) was.long ∙ sym (length_push lanes i));
      inside = λ k lt.
          elim (cases_eq k (length lanes)) [
            | inl e ↦ omega (arith, last, ap (λ (n : ℕ). get_or (lanes ++ i ∷ []) n 0) e)
            | inr ne ↦ omega (arith, old k (lane k lt ne), was.inside k (lane k lt ne))
          ];
      apart = λ j k below lt.
          elim (cases_eq k (length lanes)) [
            | inl e ↦
                let before : j < length lanes = omega (arith, below, e) in
                omega (arith, last, ap (λ (n : ℕ). get_or (lanes ++ i ∷ []) n 0) e, old j before, was.inside j before)
            | inr ne ↦
                let here = lane k lt ne in
                let before : j < length lanes = omega (arith, below, here) in
                omega (arith, old k here, old j before, was.apart j k below here)
          ];
      at = λ k lt.
          elim (cases_eq k (length lanes)) [
            | inl e ↦
                let place : k ≡ length heads = e ∙ sym was.long in
                let head : get_or (heads ++ Some pair ∷ []) k None ≡ Some pair = get_or_push heads (Some pair) None k (sym place) in
                let run : get_or (lanes ++ i ∷ []) k 0 ≡ i = ap (λ (n : ℕ). get_or (lanes ++ i ∷ []) n 0) e ∙ last in
                head ∙ (sym is ∙ ap (λ (n : ℕ). head_of (get_or runs n [])) (sym run))
            | inr ne ↦
                let here = lane k lt ne in
                get_or_append_left heads (Some pair ∷ []) None k (omega (arith, here, was.long))
                ∙ (was.at k here ∙ ap (λ (n : ℕ). head_of (get_or runs n [])) (sym (old k here)))
          ];
      cover = λ j lt some.
          elim (cases_lt j i) [
            | inl before ↦
                let found = was.cover j before some in
                (found.0, omega (arith, found.1, length_push lanes i), old found.0 found.1 ∙ found.2)
            | inr here ↦
                let e : i ≡ j = omega (arith, here, lt) in
                (length lanes, omega (arith, length_push lanes i), last ∙ e)
          ];
    }

-- the lane of a run that has one
lane_at : (i : ℕ) (lanes : List ℕ) → list_any (λ lane. lane == i) lanes ≡ true → (k : ℕ) × (k < length lanes) × (get_or lanes k 0 ≡ i)
lane_at i [] e = absurd (false≢true e)
lane_at i (lane ∷ lanes) e =
    elim (cases_eq lane i) [
      | inl same ↦ (0, omega arith, same)
      | inr ne ↦
          let other : (lane == i) ≡ false = false_from_ne_true (lane == i) (λ is. ne (eqb-true lane i is)) in
          let rest = lane_at i lanes (ap (λ (b : Bool). b || list_any (λ lane. lane == i) lanes) (sym other) ∙ e) in
          (suc rest.0, omega (arith, rest.1), rest.2)
    ]

-- a number is itself
same_number : (n : ℕ) → (n == n) ≡ true
same_number n = grind (arith, nat_tests)

-- all runs are read
pub start_ends : (runs : List (List Pair)) (lanes : List ℕ) (heads : List (Option Pair)) (count : ℕ) → AreSorted runs → count ≡ length runs
    → IsStart runs lanes heads count
    → IsMerge runs lanes heads
start_ends runs lanes heads count sorted all was = record {
  sorted = sorted;
  long = was.long;
  inside = λ k lt. omega (arith, was.inside k lt, all);
  apart = was.apart;
  at = was.at;
  cover = λ i lt some.
      let found = was.cover i (omega (arith, lt, all)) some in
      list_any_at (λ lane. lane == i) lanes found.0 0 found.1 (ap (λ (n : ℕ). n == i) found.2 ∙ same_number i);
}

-- a run whose head is read has a pair, or none
pub head_some : (run : List Pair) (pair : Pair) → Some pair ≡ head_of run → 0 < length run
head_some [] pair is = absurd (cc (is))
head_some (first ∷ run) pair is = omega arith

-- and where none is read it has no pair
pub head_none : (run : List Pair) → None ≡ head_of run → length run ≡ 0
head_none [] is = refl
head_none (first ∷ run) is = absurd (cc (is))

-- as long as there is no head, none is missing
pub none_done : NoneDone []
none_done = λ k lt. absurd (omega (arith, lt))

-- nor where a pair is added
pub none_done_more : (heads : List (Option Pair)) (pair : Pair) → NoneDone heads → NoneDone (heads ++ Some pair ∷ [])
none_done_more heads pair all = λ k lt.
    elim (cases_eq k (length heads)) [
      | inl e ↦ subst (λ (o : Option Pair). IsSome o) (sym (get_or_push heads (Some pair) None k (sym e))) refl
      | inr ne ↦
          let below : k < length heads = omega (arith, lt, ne, length_push heads (Some pair)) in
          subst (λ (o : Option Pair). IsSome o) (sym (get_or_append_left heads (Some pair ∷ []) None k below)) (all k below)
    ]

-- how many lanes there are
pub ways_same : (runs : List (List Pair)) (i : ℕ) → i < length runs → length (get_or runs i []) ≡ 0
    → count_by has_pair (take (i + 1) runs) ≡ count_by has_pair (take i runs)
ways_same runs i lt none = count_by_more_no has_pair runs i [] lt (le-ltb 0 (length (get_or runs i [])) (omega (arith, none)))

-- a run with a pair has one
pub ways_more : (runs : List (List Pair)) (i : ℕ) → i < length runs → 0 < length (get_or runs i [])
    → count_by has_pair (take (i + 1) runs) ≡ count_by has_pair (take i runs) + 1
ways_more runs i lt some = count_by_more_yes has_pair runs i [] lt (lt-ltb 0 (length (get_or runs i [])) some)

-- what holds of the pairs of each run
all_flat : (P : Pair → Type 0) (runs : List (List Pair)) → ((i : ℕ) → i < length runs → All P (get_or runs i [])) → All P (all_pairs runs)
all_flat P [] each = All-nil P
all_flat P (run ∷ runs) each =
    All-append P run (all_pairs runs) (each 0 (omega arith)) (all_flat P runs (λ i lt. each (suc i) (omega (arith, lt))))

-- where no run has a pair there is none
none_flat : (runs : List (List Pair)) → ((i : ℕ) → i < length runs → length (get_or runs i []) ≡ 0) → all_pairs runs ≡ []
none_flat [] each = refl
none_flat (run ∷ runs) each =
    let first : run ≡ [] = nil_from_length run (each 0 (omega arith)) in
    let rest : all_pairs runs ≡ [] = none_flat runs (λ i lt. each (suc i) (omega (arith, lt))) in
    ap (λ (xs : List Pair). xs ++ all_pairs runs) first ∙ rest

-- the head of a run with a pair
head_there : (run : List Pair) → 0 < length run → (x : Pair) × (head_of run ≡ Some x) × IsPermutation run (x ∷ drop 1 run)
head_there [] some = absurd (omega (arith, some))
head_there (x ∷ run) some = (x, refl, IsPermutation-refl (x ∷ run))

-- where no head is left there is no pair
pub none_left : (runs : List (List Pair)) (lanes : List ℕ) (heads : List (Option Pair)) → IsMerge runs lanes heads → AllDone heads → all_pairs runs ≡ []
none_left runs lanes heads m done =
    none_flat runs (λ i in'.
    elim (cases_lt 0 (length (get_or runs i []))) [
      | inl some ↦
          let found = lane_at i lanes (m.cover i in' some) in
          let there = head_there (get_or runs i []) some in
          let head : get_or heads found.0 None ≡ Some there.0 =
          m.at found.0 found.1 ∙ (ap (λ (n : ℕ). head_of (get_or runs n [])) found.2 ∙ there.1) in
          let bad : None ≡ Some there.0 = sym (done found.0) ∙ head in absurd (cc (bad))
      | inr less ↦ omega (arith, less)
    ])

-- what it is that one head is not ahead of another
led_by : (x y : Option Pair) (a b : Pair) → x ≡ Some a → y ≡ Some b → is_ahead x y ≡ false → is_before a b ≡ false
led_by x y a b is-x is-y h = subst (λ (v : Option Pair). is_ahead (Some a) v ≡ false) is-y (subst (λ (v : Option Pair). is_ahead v y ≡ false) is-x h)

-- the first head is the least of all pairs
pub least_first : (runs : List (List Pair)) (lanes : List ℕ) (heads : List (Option Pair)) → IsMerge runs lanes heads → (lane : ℕ)
    → ((other : ℕ) → MayLead heads lane other) → (x : Pair) → get_or heads lane None ≡ Some x → IsLeast (all_pairs runs) x
least_first runs lanes heads m lane leads x is =
    all_flat (λ other. is_before other x ≡ false) runs (λ i in' k d lt.
    let run = get_or runs i [] in
    let some : 0 < length run = omega (arith, lt) in
    let found = lane_at i lanes (m.cover i in' some) in
    let head : get_or heads found.0 None ≡ Some (get_or run 0 d) =
    m.at found.0 found.1 ∙ (ap (λ (n : ℕ). head_of (get_or runs n [])) found.2 ∙ slice_get-get_or run 0 d some) in
    let first : is_before (get_or run 0 d) x ≡ false = led_by (get_or heads found.0 None) (get_or heads lane None) (get_or run 0 d) x head is (leads found.0) in
    let up = All-get_or (λ r. IsSorted pair_cmp r) runs i [] in' m.sorted in
    before_order.chain (get_or run k d) (get_or run 0 d) x (sorted_far is_before before_order run up 0 k d (omega arith) lt) first)

-- one pair out of one run
perm_at : (runs : List (List Pair)) (i : ℕ) (rest : List Pair) (x : Pair) → i < length runs → IsPermutation (get_or runs i []) (x ∷ rest)
    → IsPermutation (all_pairs runs) (x ∷ all_pairs (set runs i rest))
perm_at [] i rest x lt p = absurd (omega (arith, lt))
perm_at (run ∷ runs) zero rest x lt p = IsPermutation-append_left (all_pairs runs) run (x ∷ rest) p
perm_at (run ∷ runs) (suc i) rest x lt p =
    IsPermutation-trans _ _ _
    (IsPermutation-append_right run (all_pairs runs) (x ∷ all_pairs (set runs i rest)) (perm_at runs i rest x (omega (arith, lt)) p))
    (IsPermutation-middle run x (all_pairs (set runs i rest)))

-- the head that is given first has a run with a pair
pub first_has : (runs : List (List Pair)) (lanes : List ℕ) (heads : List (Option Pair)) → IsMerge runs lanes heads → (value : HeadsValue) → value.heads ≡ heads
    → (lane : ℕ) → IsFirst value lane → 0 < length (get_or runs (get_or lanes lane 0) [])
first_has runs lanes heads m value same lane first =
    let inside : lane < length lanes = omega (arith, first.inside, ap length same, m.long) in
    let run = get_or runs (get_or lanes lane 0) [] in
    let head : head_of run ≡ Some first.pair = sym (m.at lane inside) ∙ (ap (λ (hs : List (Option Pair)). get_or hs lane None) (sym same) ∙ first.there) in
    elim (cases_lt 0 (length run)) [
      | inl some ↦ some
      | inr less ↦ let none = slice_get_past run 0 (omega (arith, less)) in absurd (cc (none, head))
    ]

-- what a step gives
pub step_gives : (runs : List (List Pair)) (lanes : List ℕ) (heads : List (Option Pair)) → IsMerge runs lanes heads → (lane run : ℕ) → lane < length lanes
    → run ≡ get_or lanes lane 0
    → ((other : ℕ) → MayLead heads lane other) → 0 < length (get_or runs run []) → (given : Option Pair) → given ≡ get_or heads lane None
    → Gives runs given (set runs run (drop 1 (get_or runs run [])))
step_gives runs lanes heads m lane run lt at leads some given is =
    let there = head_there (get_or runs run []) some in
    let head : get_or heads lane None ≡ Some there.0 = m.at lane lt ∙ (ap (λ (n : ℕ). head_of (get_or runs n [])) (sym at) ∙ there.1) in
    let G : Option Pair → Type 0 = λ o. Gives runs o (set runs run (drop 1 (get_or runs run []))) in
    subst G (sym (is ∙ head)) (
      least_first runs lanes heads m lane leads there.0 head,
      perm_at runs run (drop 1 (get_or runs run [])) there.0 (omega (arith, m.inside lane lt, at))
          there.2,
    )

-- a run without its first pair is in order
sorted_rest : (run : List Pair) → IsSorted pair_cmp run → IsSorted pair_cmp (drop 1 run)
sorted_rest run up = λ k d le lt.
    let e : 1 + (k + 1) ≡ 1 + k + 1 = omega arith in
    rw (get_or-drop 1 run (k + 1) d, get_or-drop 1 run k d, e) (up (1 + k) d (omega arith) (omega (arith, lt, length-drop 1 run)))

-- the second pair is the head of what is left
second_is : (run : List Pair) → slice_get run 1 ≡ head_of (drop 1 run)
second_is [] = refl
second_is (x ∷ run) = refl

-- another lane has another run
off_lane :
    {runs : List (List Pair)} {lanes : List ℕ} {heads : List (Option Pair)} → IsMerge runs lanes heads → (lane k run : ℕ) → lane < length lanes
    → k < length lanes → run ≡ get_or lanes lane 0 → k ≢ lane → get_or lanes k 0 ≢ run
off_lane m lane k run lt lt' at ne = elim (cases_lt k lane) [
  | inl before ↦ let gap = m.apart k lane before lt in λ e. omega (arith, gap, at, e)
  | inr after ↦ let gap = m.apart lane k (omega (arith, after, ne)) lt' in λ e. omega (arith, gap, at, e)
]

-- what a step leaves
pub step_leaves : (runs : List (List Pair)) (lanes : List ℕ) (heads : List (Option Pair)) → IsMerge runs lanes heads → (lane run : ℕ) → lane < length lanes
    → run ≡ get_or lanes lane 0
    → (next : Option Pair) → next ≡ slice_get (get_or runs run []) 1 → IsMerge (set runs run (drop 1 (get_or runs run []))) lanes (set heads lane next)
step_leaves runs lanes heads m lane run lt at next is =
    let rest = drop 1 (get_or runs run []) in
    let in' : run < length runs = omega (arith, m.inside lane lt, at) in
    let long : length (set runs run rest) ≡ length runs = length-set runs run rest in
    let here : get_or (set runs run rest) run [] ≡ rest = get_or-set_same runs run rest [] in' in
    let other : (i : ℕ) → i ≢ run → get_or (set runs run rest) i [] ≡ get_or runs i [] = λ i ne. get_or-set_other runs run i rest [] ne in
    let I : List Pair → Type 0 = λ r. IsSorted pair_cmp r in
    record {
      sorted = All-set I runs run rest (sorted_rest (get_or runs run []) (All-get_or I runs run [] in' m.sorted)) m.sorted;
      long = length-set heads lane next ∙ m.long;
      inside = λ k lt'. omega (arith, m.inside k lt', long);
      apart = m.apart;
      at = λ k lt'.
          elim (cases_eq k lane) [
            | inl e ↦
                let place : get_or lanes k 0 ≡ run = ap (λ (n : ℕ). get_or lanes n 0) e ∙ sym at in
                let head : get_or (set heads lane next) k None ≡ next =
                ap (λ (n : ℕ). get_or (set heads lane next) n None) e ∙ get_or-set_same heads lane next None (omega (arith, lt, m.long)) in
                head ∙ (is ∙ (second_is (get_or runs run []) ∙ ap head_of (sym (ap (λ (n : ℕ). get_or (set runs run rest) n []) place ∙ here))))
            | inr ne ↦
                let off : get_or lanes k 0 ≢ run = off_lane m lane k run lt lt' at ne in
                get_or-set_other heads lane k next None ne ∙ (m.at k lt' ∙ ap head_of (sym (other (get_or lanes k 0) off)))
          ];
      cover = λ i lt' some.
          let before : 0 < length (get_or runs i []) =
          elim (cases_eq i run) [
            | inl e ↦ omega (
              arith,
              some,
              ap (λ (n : ℕ). length (get_or (set runs run rest) n [])) e,
              ap length here,
              length-drop 1 (get_or runs run []),
              ap
                  (λ (n : ℕ). length (get_or runs n [])) e,
            )
            | inr ne ↦ omega (arith, some, ap length (other i ne))
          ] in
          m.cover i (omega (arith, lt', long)) before;
    }

-- the third pair is the second one of what is left
third_is : (run : List Pair) → slice_get run 2 ≡ slice_get (drop 1 run) 1
third_is [] = refl
third_is (x ∷ run) = refl

-- the same of the pairs behind the heads
pub seconds_leave : (runs : List (List Pair)) (lanes : List ℕ) (heads seconds : List (Option Pair)) → IsMerge runs lanes heads → AreSeconds runs lanes seconds
    → (lane run : ℕ) → lane < length lanes → run ≡ get_or lanes lane 0 → (second : Option Pair) → second ≡ slice_get (get_or runs run []) 2
    → AreSeconds (set runs run (drop 1 (get_or runs run []))) lanes (set seconds lane second)
seconds_leave runs lanes heads seconds m are lane run lt at second is =
    let rest = drop 1 (get_or runs run []) in
    let in' : run < length runs = omega (arith, m.inside lane lt, at) in
    let here : get_or (set runs run rest) run [] ≡ rest = get_or-set_same runs run rest [] in' in
    record {
      long = length-set seconds lane second ∙ are.long;
      at = λ k lt'.
          elim (cases_eq k lane) [
            | inl e ↦
                let place : get_or lanes k 0 ≡ run = ap (λ (n : ℕ). get_or lanes n 0) e ∙ sym at in
                let new : get_or (set seconds lane second) k None ≡ second =
                ap (λ (n : ℕ). get_or (set seconds lane second) n None) e ∙ get_or-set_same seconds lane second None (omega (arith, lt, are.long)) in
                new
                ∙ (is ∙ (third_is (get_or runs run []) ∙ ap (λ (r : List Pair). slice_get r 1) (sym (ap (λ (n : ℕ). get_or (set runs run rest) n []) place ∙ here))))
            | inr ne ↦
                let off : get_or lanes k 0 ≢ run = off_lane m lane k run lt lt' at ne in
                get_or-set_other seconds lane k second None ne
                ∙ (are.at k lt' ∙ ap (λ (r : List Pair). slice_get r 1) (sym (get_or-set_other runs run (get_or lanes k 0) rest [] off)))
          ];
    }

-- none yet
pub no_seconds : (runs : List (List Pair)) → AreSeconds runs [] []
no_seconds runs = record { long = refl; at = λ k lt. absurd (omega (arith, lt)) }

-- one more
pub second_more : (runs : List (List Pair)) (lanes : List ℕ) (seconds : List (Option Pair)) (i : ℕ) (second : Option Pair) → AreSeconds runs lanes seconds
    → second ≡ slice_get (get_or runs i []) 1 → AreSeconds runs (lanes ++ i ∷ []) (seconds ++ second ∷ [])
second_more runs lanes seconds i second are is = record {
  long = omega (arith, are.long, length_push lanes i, length_push seconds second);
  at = λ k lt.
      elim (cases_eq k (length lanes)) [
        | inl e ↦
            let lane : get_or (lanes ++ i ∷ []) k 0 ≡ i = get_or_push lanes i 0 k (sym e) in
            get_or_push seconds second None k (are.long ∙ sym e) ∙ (is ∙ ap (λ (n : ℕ). slice_get (get_or runs n []) 1) (sym lane))
        | inr ne ↦
            let below : k < length lanes = omega (arith, lt, ne, length_push lanes i) in
            let lane : get_or (lanes ++ i ∷ []) k 0 ≡ get_or lanes k 0 = get_or_append_left lanes (i ∷ []) 0 k below in
            get_or_append_left seconds (second ∷ []) None k (omega (arith, below, are.long))
            ∙ (are.at k below ∙ ap (λ (n : ℕ). slice_get (get_or runs n []) 1) (sym lane))
      ];
}

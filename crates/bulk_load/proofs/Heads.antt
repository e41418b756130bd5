-- The heads of sources that are merged.
use Rattle.std.proofs.Common.{◌≡◌, ℕ, zero, suc, ◌+◌, ◌<◌, ◌==◌, true, false, List, [], ◌∷◌, ◌++◌, All, length, get_or, set, drop, Option, Some, None, refl, sym, ap, ◌∙◌, subst, inl, arith}
use Rattle.std.specs.Prelude.{MatchOption, slice_get}
use Rattle.std.specs.Ordering.{is_lt}
use Rattle.std.specs.List.Sorted.{IsSorted}
use Rattle.std.proofs.lemmas.List.{length-set}
use Rattle.std.proofs.lemmas.List.Folds.{list_any_at}
use Rattle.std.proofs.lemmas.Bool.Decides.{nat_tests}
use Rattle.std.proofs.lemmas.List.Elements.{All-head, All-tail, All-nil, All-cons}
use Rattle.keybytes.specs.Pairs.{AreOrdered, pair_cmp}
use Rattle.keybytes.specs.declared.pair.Pair.{Pair}
use Rattle.run_spool.specs.Spools.{AreSorted}
use Rattle.run_merge.specs.Leading.{HeadsValue, IsFirst, MayLead}
use Rattle.run_merge.specs.Merging.{Gives, IsMerge, head_of}
use Rattle.run_merge.proofs.Order.{before_order}
use Rattle.run_merge.proofs.Steps.{step_gives, step_leaves}
use Rattle.tree_nodes.specs.Lists.{IsRising}
use Rattle.tree_nodes.specs.Order.{is_before}
use Rattle.btree.proofs.Sets.{rises_of}
use Rattle.bulk_load.specs.Headed.{AreHeadsOf, numbers_from, with_head, with_heads}
use Rattle.bulk_load.proofs.InOrder.{once_left}

-- pairs that rise are in order
rising_sorted : (ps : List Pair) → IsRising is_before ps → IsSorted pair_cmp ps
unfolding is_before
rising_sorted [] rises k d from less = absurd (omega (arith, less))
rising_sorted (p ∷ []) rises k d from less = absurd (omega (arith, less))
rising_sorted (p ∷ q ∷ ps) rises zero d from less = before_order.one_way p q (rises.0 q (inl refl))
rising_sorted (p ∷ q ∷ ps) rises (suc k) d from less =
    let e : suc k + 1 ≡ suc (k + 1) = omega arith in
    subst (λ (n : ℕ). is_lt (pair_cmp (get_or (p ∷ q ∷ ps) n d) (get_or (q ∷ ps) k d)) ≡ false) (sym e)
    (rising_sorted (q ∷ ps) rises.1 k d (omega arith) (omega (arith, less)))

pub all_sorted_of : (runs : List (List Pair)) → All AreOrdered runs → AreSorted runs
all_sorted_of [] all = All-nil (IsSorted pair_cmp)
all_sorted_of (run ∷ runs) all =
    All-cons (IsSorted pair_cmp) run runs (rising_sorted run (rises_of run (All-head AreOrdered run runs all))) (all_sorted_of runs (All-tail AreOrdered run runs all))

pub numbers_at : (first count k d : ℕ) → k < count → get_or (numbers_from first count) k d ≡ first + k
numbers_at first zero k d less = absurd (omega (arith, less))
numbers_at first (suc count) zero d less = omega arith
numbers_at first (suc count) (suc k) d less = numbers_at (suc first) count k d (omega (arith, less)) ∙ omega arith

pub numbers_long : (first count : ℕ) → length (numbers_from first count) ≡ count
numbers_long first zero = refl
numbers_long first (suc count) = ap suc (numbers_long (suc first) count)

same_number : (n : ℕ) → (n == n) ≡ true
same_number n = grind (arith, nat_tests)

-- the heads of all, as a merge of them begins
pub starts_merge :
    (heads : List (Option Pair)) (runs : List (List Pair)) → length heads ≡ length runs → AreSorted runs
    → ((k : ℕ) → k < length runs → get_or heads k None ≡ head_of (get_or runs k [])) → IsMerge runs (numbers_from 0 (length runs)) heads
starts_merge heads runs many sorted at =
    let lanes = numbers_from 0 (length runs) in
    let long : length lanes ≡ length runs = numbers_long 0 (length runs) in
    let is : (k : ℕ) → k < length lanes → get_or lanes k 0 ≡ k = λ k less. numbers_at 0 (length runs) k 0 (omega (arith, less, long)) ∙ omega arith in
    record {
      sorted = sorted;
      long = many ∙ sym long;
      inside = λ k less. let e = is k less in omega (arith, e, less, long);
      apart = λ j k before less. let e = is j (omega (arith, before, less)) in let f = is k less in omega (arith, e, f, before);
      at = λ k less. at k (omega (arith, less, long)) ∙ ap (λ (n : ℕ). head_of (get_or runs n [])) (sym (is k less));
      cover = λ i less some. list_any_at (λ lane. lane == i) lanes i 0 (omega (arith, less, long)) (ap (λ (n : ℕ). n == i) (is i (omega (arith, less, long))) ∙ same_number i);
    }

-- one head more is taken
pub more_heads :
    (heads : List (Option Pair)) (lefts : List (List Pair)) (head : Option Pair) (left : List Pair) (k : ℕ) → length heads ≡ k → k < length lefts
    → with_head head left ≡ get_or lefts k [] → with_heads (heads ++ head ∷ []) (set lefts k left) ≡ with_heads heads lefts
more_heads [] [] head left k many less is = absurd (omega (arith, less))
more_heads [] (l ∷ ls) head left zero many less is = ap (λ (x : List Pair). x ∷ ls) is
more_heads [] (l ∷ ls) head left (suc k) many less is = absurd (omega (arith, many))
more_heads (h ∷ hs) [] head left k many less is = absurd (omega (arith, less))
more_heads (h ∷ hs) (l ∷ ls) head left zero many less is = absurd (omega (arith, many))
more_heads (h ∷ hs) (l ∷ ls) head left (suc k) many less is =
    ap (λ (xs : List (List Pair)). with_head h l ∷ xs) (more_heads hs ls head left k (omega (arith, many)) (omega (arith, less)) is)

-- a head is put in the place of another
put_head :
    (heads : List (Option Pair)) (lefts : List (List Pair)) (place : ℕ) (next : Option Pair) (left : List Pair) → length heads ≡ length lefts
    → with_heads (set heads place next) (set lefts place left) ≡ set (with_heads heads lefts) place (with_head next left)
put_head [] [] place next left many = refl
put_head [] (l ∷ ls) place next left many = absurd (omega (arith, many))
put_head (h ∷ hs) [] place next left many = absurd (omega (arith, many))
put_head (h ∷ hs) (l ∷ ls) zero next left many = refl
put_head (h ∷ hs) (l ∷ ls) (suc place) next left many =
    ap (λ (xs : List (List Pair)). with_head h l ∷ xs) (put_head hs ls place next left (omega (arith, many)))

-- what is left of a source with its head
run_is :
    (heads : List (Option Pair)) (lefts : List (List Pair)) (place : ℕ) (p : Pair) → length heads ≡ length lefts → place < length lefts → get_or heads place None ≡ Some p
    → get_or (with_heads heads lefts) place [] ≡ p ∷ get_or lefts place []
run_is [] [] place p many less is = absurd (omega (arith, less))
run_is [] (l ∷ ls) place p many less is = absurd (omega (arith, many))
run_is (h ∷ hs) [] place p many less is = absurd (omega (arith, less))
run_is (h ∷ hs) (l ∷ ls) zero p many less is = ap (λ (o : Option Pair). with_head o l) is
run_is (h ∷ hs) (l ∷ ls) (suc place) p many less is = run_is hs ls place p (omega (arith, many)) (omega (arith, less)) is

-- what a source gives is the pair behind its head
pub next_is :
    (next : Option Pair) (old left : List Pair) → MatchOption next ((old ≡ []) × (left ≡ [])) (λ q. old ≡ q ∷ left)
    → (next ≡ head_of old) × (with_head next left ≡ old)
next_is None old left gave = (ap head_of (sym gave.0), gave.1 ∙ sym gave.0)
next_is (Some q) old left gave = (ap head_of (sym gave), sym gave)

-- a step gives the first head, and takes the next one of its source
module _
    (heads : List (Option Pair)) (lefts : List (List Pair)) (are : AreHeadsOf heads lefts) (value : HeadsValue) (same : value.heads ≡ heads) (place : ℕ)
    (first : IsFirst value place) (next : Option Pair) (left : List Pair)
    (gave : MatchOption next ((get_or lefts place [] ≡ []) × (left ≡ [])) (λ q. get_or lefts place [] ≡ q ∷ left)) where
  runs : List (List Pair)
  runs = with_heads heads lefts

  inside : place < length lefts
  inside = let e = ap length same in omega (arith, first.inside, e, are.long)

  there : get_or heads place None ≡ Some first.pair
  there = ap (λ (hs : List (Option Pair)). get_or hs place None) (sym same) ∙ first.there

  its_run : get_or runs place [] ≡ first.pair ∷ get_or lefts place []
  unfolding runs
  its_run = run_is heads lefts place first.pair are.long inside there

  lane_is : place ≡ get_or (numbers_from 0 (length lefts)) place 0
  lane_is = sym (numbers_at 0 (length lefts) place 0 inside ∙ omega arith)

  many_lanes : place < length (numbers_from 0 (length lefts))
  many_lanes = let e = numbers_long 0 (length lefts) in omega (arith, e, inside)

  some : 0 < length (get_or runs place [])
  some = let e = ap length its_run in omega (arith, e)

  rest_is : with_head next left ≡ drop 1 (get_or runs place [])
  rest_is = (next_is next (get_or lefts place []) left gave).1 ∙ ap (drop 1) (sym its_run)

  runs_are : with_heads (set heads place next) (set lefts place left) ≡ set runs place (drop 1 (get_or runs place []))
  unfolding runs
  runs_are = put_head heads lefts place next left are.long ∙ ap (set runs place) rest_is

  second_is : next ≡ slice_get (get_or runs place []) 1
  second_is = (next_is next (get_or lefts place []) left gave).0 ∙ ap (λ (r : List Pair). slice_get r 1) (sym its_run)

  pub step_given : Gives (with_heads heads lefts) (get_or heads place None) (with_heads (set heads place next) (set lefts place left))
  unfolding runs
  step_given = subst (Gives runs (get_or heads place None)) (sym runs_are)
      (step_gives runs (numbers_from 0 (length lefts)) heads are.merge place place many_lanes lane_is
      (subst (λ (hs : List (Option Pair)). (other : ℕ) → MayLead hs place other) same first.leads) some (get_or heads place None) refl)

  pub step_left : AreHeadsOf (set heads place next) (set lefts place left)
  unfolding runs
  step_left = record {
    long = length-set heads place next ∙ are.long ∙ sym (length-set lefts place left);
    merge =
        subst (λ (rs : List (List Pair)). IsMerge rs (numbers_from 0 (length (set lefts place left))) (set heads place next)) (sym runs_are)
        (subst (λ (n : ℕ). IsMerge (set runs place (drop 1 (get_or runs place []))) (numbers_from 0 n) (set heads place next)) (sym (length-set lefts place left))
        (step_leaves runs (numbers_from 0 (length lefts)) heads are.merge place place many_lanes lane_is next second_is));
    once = once_left (with_heads heads lefts) (get_or heads place None) (with_heads (set heads place next) (set lefts place left)) are.once step_given;
  }

-- Steps of a bisection.
use Rattle.std.proofs.Common.{◌≡◌, ℕ, ◌<◌, ◌≤◌, ◌+◌, true, false, not, List, [], ◌∷◌, length, get_or, sym, ap, ◌∙◌, inl, inr, arith}
use Rattle.std.proofs.lemmas.Bool.{not_from_true, not_from_false, cases_Bool, both_ways}
use Rattle.keybytes.specs.declared.pair.Pair.{Pair}
use Rattle.tree_nodes.specs.Lists.{front_count}
use Rattle.tree_nodes.specs.Order.{is_before, PairsRise}
use Rattle.tree_nodes.proofs.Fronts.{front_fails, front_passes}
use Rattle.tree_nodes.proofs.Places.{one_way}
use Rattle.tree_nodes.proofs.Strict.{before-strict}

pub below_more : (pairs : List Pair) (p q : Pair) (m : ℕ) → PairsRise pairs → m < length pairs → q ≡ get_or pairs m q → is_before q p ≡ true → m + 1 ≤ front_count (λ pair. is_before pair p) pairs
below_more pairs p q m o h is e =
    let passes : is_before (get_or pairs m q) p ≡ true = ap (λ x. is_before x p) (sym is) ∙ e in
    let more : m < front_count (λ pair. is_before pair p) pairs = front_passes is_before (λ pair. is_before pair p) (λ x y l k. before-strict.onward x y p l k) pairs m q o.rising h passes in
    omega arith

pub below_end : (pairs : List Pair) (p q : Pair) (m : ℕ) → m < length pairs → q ≡ get_or pairs m q → is_before q p ≡ false → front_count (λ pair. is_before pair p) pairs ≤ m
below_end pairs p q m h is e = front_fails (λ pair. is_before pair p) pairs m q h (ap (λ x. is_before x p) (sym is) ∙ e)

down : (p x y : Pair) → is_before x y ≡ true → not (is_before p y) ≡ true → not (is_before p x) ≡ true
down p x y l k = elim (cases_Bool (is_before p x)) [
  | inl e ↦ absurd (both_ways _ (not_from_true _ (before-strict.onward p x y e l)) k)
  | inr e ↦ not_from_false _ e
]

pub not_above_more : (pairs : List Pair) (p q : Pair) (m : ℕ) → PairsRise pairs → m < length pairs → q ≡ get_or pairs m q → is_before p q ≡ false → m + 1 ≤ front_count (λ pair. not (is_before p pair)) pairs
not_above_more pairs p q m o h is e =
    let passes : not (is_before p (get_or pairs m q)) ≡ true = ap (λ x. not (is_before p x)) (sym is) ∙ not_from_false _ e in
    let more : m < front_count (λ pair. not (is_before p pair)) pairs = front_passes is_before (λ pair. not (is_before p pair)) (down p) pairs m q o.rising h passes in
    omega arith

pub not_above_end : (pairs : List Pair) (p q : Pair) (m : ℕ) → m < length pairs → q ≡ get_or pairs m q → is_before p q ≡ true → front_count (λ pair. not (is_before p pair)) pairs ≤ m
not_above_end pairs p q m h is e = front_fails (λ pair. not (is_before p pair)) pairs m q h (ap (λ x. not (is_before p x)) (sym is) ∙ not_from_true _ e)

-- those that stand before p don't stand behind it
pub before_few : (p : Pair) (pairs : List Pair) → front_count (λ pair. is_before pair p) pairs ≤ front_count (λ pair. not (is_before p pair)) pairs
before_few p [] = omega arith
before_few p (pair ∷ pairs) = elim (cases_Bool (is_before pair p)) [
  | inl e ↦ rw (e, one_way before-strict pair p e) (omega (arith, before_few p pairs))
  | inr e ↦ rw e (omega arith)
]

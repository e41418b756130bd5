-- Pairs that rise, as a set.
use Rattle.std.proofs.Common.{◌≡◌, Bool, true, false, List, [], ◌∷◌, map, refl, sym, ap, ◌∙◌, subst, inl, inr}
use Rattle.std.specs.Prelude.{not, ◌&&◌, ◌||◌, T, Some}
use Rattle.std.specs.declared.cmp.Ordering.{Ordering}
use Rattle.std.specs.declared.cmp.Ordering.TheVariants.{Less, Equal, Greater}
use Rattle.std.specs.Ordering.{is_lt, is_eq, eq_by_cmp, ordering_reverse}
use Rattle.std.specs.FinMap.{contains_key, insert, remove, keys, entries, entries_sorted}
use Rattle.std.specs.FinSet.{FinSet}
use Rattle.std.specs.FinMap.Entries.{is_sorted, below_all}
use Rattle.std.proofs.lemmas.Bool.{cases_Bool}
use Rattle.keybytes.specs.declared.pair.Pair.{Pair}
use Rattle.keybytes.specs.Pairs.{pair_cmp, set_of, with_pair, without_pair, AreOrdered}
use Rattle.keybytes.proofs.PairSets.{pairs_total, marked, is_in, items_are, same_members, contains-set_of, contains-insert, contains-remove, tied_pairs}
use Rattle.tree_nodes.specs.Lists.{In, IsRising, same_by, has, put, without}
use Rattle.tree_nodes.specs.Order.{is_before}
use Rattle.tree_nodes.proofs.Strict.{before-strict}
use Rattle.tree_nodes.proofs.Places.{has_none_below}

-- neither is before the other where they tie
tie : (o : Ordering) → (not (is_lt o) && not (is_lt (ordering_reverse o))) ≡ is_eq o
tie Less = refl
tie Equal = refl
tie Greater = refl

same_is : (p q : Pair) → same_by is_before p q ≡ eq_by_cmp pair_cmp p q
unfolding is_before
same_is p q = ap (λ o. not (is_lt (pair_cmp p q)) && not (is_lt o)) (pairs_total.antisymm q p) ∙ tie (pair_cmp p q)

has_in : (p : Pair) (ps : List Pair) → has is_before p ps ≡ is_in p ps
has_in p [] = refl
has_in p (q ∷ ps) = ap (λ b. b || has is_before p ps) (same_is p q) ∙ ap (λ b. eq_by_cmp pair_cmp p q || b) (has_in p ps)

pub has_is : (p : Pair) (ps : List Pair) → has is_before p ps ≡ contains_key (set_of ps) p
has_is p ps = has_in p ps ∙ sym (contains-set_of ps p)

or_swap : (a b c : Bool) → (a || (b || c)) ≡ (b || (a || c))
or_swap true true c = refl
or_swap true false c = refl
or_swap false b c = refl

or_twice : (a b : Bool) → (a || (a || b)) ≡ (a || b)
or_twice true b = refl
or_twice false b = refl

in_put : (p q : Pair) (ps : List Pair) → is_in q (put is_before p ps) ≡ (eq_by_cmp pair_cmp q p || is_in q ps)
in_put p q [] = refl
in_put p q (r ∷ ps) = elim (cases_Bool (is_before p r)) [
  | inl e ↦ rw e refl
  | inr e ↦ elim (cases_Bool (is_before r p)) [
    | inl f ↦ rw (e, f) (ap (λ b. eq_by_cmp pair_cmp q r || b) (in_put p q ps) ∙ or_swap (eq_by_cmp pair_cmp q r) (eq_by_cmp pair_cmp q p) (is_in q ps))
    | inr f ↦ rw (e, f) (sym (ap (λ t. eq_by_cmp pair_cmp q t || (eq_by_cmp pair_cmp q r || is_in q ps)) (before-strict.tied p r e f)
        ∙ or_twice (eq_by_cmp pair_cmp q r) (is_in q ps)))
  ]
]

pub put_is : (p : Pair) (ps : List Pair) → set_of (put is_before p ps) ≡ with_pair (Some p) (set_of ps)
put_is p ps =
    same_members (set_of (put is_before p ps)) (insert (set_of ps) p tt) (λ q.
    contains-set_of (put is_before p ps) q ∙ in_put p q ps
    ∙ ap (λ b. eq_by_cmp pair_cmp q p || b) (sym (contains-set_of ps q)) ∙ sym (contains-insert (set_of ps) p q))

-- a pair before all of them isn't one of them
absent : (p : Pair) (ps : List Pair) → ((q : Pair) → In q ps → is_before p q ≡ true) → is_in p ps ≡ false
absent p ps h = sym (has_in p ps) ∙ has_none_below is_before p ps h

behind : (p r : Pair) (ps : List Pair) (q : Pair) (same : Bool) → eq_by_cmp pair_cmp q p ≡ same → is_in p ps ≡ false
    → is_in q ps ≡ (not same && (same || is_in q ps))
behind p r ps q true e gone = ap (λ x. is_in x ps) (tied_pairs q p e) ∙ gone
behind p r ps q false e gone = refl

keeps : (p r q : Pair) (rest : Bool) (same : Bool) → eq_by_cmp pair_cmp q p ≡ same → eq_by_cmp pair_cmp p r ≡ false
    → (eq_by_cmp pair_cmp q r || (not same && rest)) ≡ (not same && (eq_by_cmp pair_cmp q r || rest))
keeps p r q rest true e other = ap (λ x. eq_by_cmp pair_cmp x r || false) (tied_pairs q p e) ∙ ap (λ b. b || false) other
keeps p r q rest false e other = refl

in_without : (p q : Pair) (ps : List Pair) → IsRising is_before ps → is_in q (without is_before p ps) ≡ (not (eq_by_cmp pair_cmp q p) && is_in q ps)
in_without p q [] r = none (eq_by_cmp pair_cmp q p) where
  none : (b : Bool) → false ≡ (not b && false)
  none true = refl
  none false = refl
in_without p q (x ∷ ps) r = elim (cases_Bool (same_by is_before p x)) [
  | inl e ↦
      let is : p ≡ x = tied_pairs p x (sym (same_is p x) ∙ e) in
      let gone : is_in p ps ≡ false = absent p ps (λ y i. ap (λ t. is_before t y) is ∙ r.0 y i) in
      rw e (behind p x ps q (eq_by_cmp pair_cmp q p) refl gone ∙ ap (λ t. not (eq_by_cmp pair_cmp q p) && (eq_by_cmp pair_cmp q t || is_in q ps)) is)
  | inr e ↦
      let other : eq_by_cmp pair_cmp p x ≡ false = sym (same_is p x) ∙ e in
      rw e (ap (λ b. eq_by_cmp pair_cmp q x || b) (in_without p q ps r.1) ∙ keeps p x q (is_in q ps) (eq_by_cmp pair_cmp q p) refl other)
]

pub without_is : (p : Pair) (ps : List Pair) → IsRising is_before ps → set_of (without is_before p ps) ≡ without_pair (Some p) (set_of ps)
without_is p ps r =
    same_members (set_of (without is_before p ps)) (remove (set_of ps) p) (λ q.
    contains-set_of (without is_before p ps) q ∙ in_without p q ps r
    ∙ ap (λ b. not (eq_by_cmp pair_cmp q p) && b) (sym (contains-set_of ps q)) ∙ sym (contains-remove (set_of ps) p q))

both : (a b : Bool) → T a → T b → T (a && b)
both true b p q = q
both false b p q = p

below : (p : Pair) (ps : List Pair) → ((q : Pair) → In q ps → is_before p q ≡ true) → T (below_all pair_cmp p (marked ps))
unfolding is_before
below p [] h = tt
below p (q ∷ ps) h =
    both (is_lt (pair_cmp p q)) (below_all pair_cmp p (marked ps)) (subst T (sym (h q (inl refl))) tt) (below p ps (λ r i. h r (inr i)))

sorted : (ps : List Pair) → IsRising is_before ps → T (is_sorted pair_cmp (marked ps))
sorted [] r = tt
sorted (p ∷ ps) r = both (below_all pair_cmp p (marked ps)) (is_sorted pair_cmp (marked ps)) (below p ps r.0) (sorted ps r.1)

pub ordered_of : (ps : List Pair) → IsRising is_before ps → AreOrdered ps
ordered_of ps r = items_are ps ps (sorted ps r) (λ q. refl)

-- and back
first_of : (a b : Bool) → T (a && b) → T a
first_of true b p = tt
first_of false b p = p

second_of : (a b : Bool) → T (a && b) → T b
second_of true b p = p
second_of false b p = absurd p

holds_true : (b : Bool) → T b → b ≡ true
holds_true true p = refl
holds_true false p = absurd p

above : (p : Pair) (ps : List Pair) → T (below_all pair_cmp p (marked ps)) → (q : Pair) → In q ps → is_before p q ≡ true
unfolding is_before
above p [] h q i = absurd i
above p (r ∷ ps) h q i = elim i [
  | inl is ↦ rw is (holds_true (is_lt (pair_cmp p r)) (first_of (is_lt (pair_cmp p r)) (below_all pair_cmp p (marked ps)) h))
  | inr k ↦ above p ps (second_of (is_lt (pair_cmp p r)) (below_all pair_cmp p (marked ps)) h) q k
]

rises : (ps : List Pair) → T (is_sorted pair_cmp (marked ps)) → IsRising is_before ps
rises [] h = tt
rises (p ∷ ps) h = (
  above p ps (first_of (below_all pair_cmp p (marked ps)) (is_sorted pair_cmp (marked ps)) h),
  rises ps (second_of (below_all pair_cmp p (marked ps)) (is_sorted pair_cmp (marked ps)) h),
)

marks_of : (es : List (Pair × Unit {0})) → marked (map (λ e. e.0) es) ≡ es
marks_of [] = refl
marks_of (e ∷ es) = ap (λ xs. e ∷ xs) (marks_of es)

keys_rise : (s : FinSet pair_cmp) → IsRising is_before (keys s)
keys_rise s = rises (keys s) (subst (λ es. T (is_sorted pair_cmp es)) (sym (marks_of (entries s))) (entries_sorted s))

pub rises_of : (ps : List Pair) → AreOrdered ps → IsRising is_before ps
rises_of ps ordered = subst (IsRising is_before) (sym ordered) (keys_rise (set_of ps))

-- The leaf that a pair belongs to, and what is behind it.
use Rattle.tree_nodes.specs.Fans.{children_of, separators_of}
use Rattle.std.proofs.Common.{◌≡◌, ℕ, suc, ◌<◌, ◌≤◌, Bool, true, false, List, [], ◌∷◌, ◌++◌, Option, Some, None, Bor, get_or, take, drop, refl, sym}
use Rattle.std.proofs.Common.{ap, ◌∙◌, subst, inl, inr, arith, append_assoc}
use Rattle.std.proofs.lemmas.Bool.{cases_Bool, both_ways, not-true}
use Rattle.std.proofs.lemmas.List.{take-append-drop}
use Rattle.keybytes.specs.declared.pair.Pair.{Pair}
use Rattle.tree_nodes.specs.declared.fan.Fan.{Fan}
use Rattle.tree_nodes.specs.Lists.{In, IsRising, front_count}
use Rattle.tree_nodes.specs.Order.{is_before, PairsRise}
use Rattle.btree.specs.Marks.{Mark, Item, Between, mark_before, items_of, pairs_in}
use Rattle.btree.specs.Seen.{Seen}
use Rattle.btree.specs.From.{LeafFrom, next_marks, from, from_next, NextAbove, above, above_next}
use Rattle.tree_nodes.proofs.Strict.{before-strict, least_pair}
use Rattle.tree_nodes.proofs.Places.{one_way}
use Rattle.tree_nodes.proofs.Rising.{in_right, in_either, rising_parts}
use Rattle.btree.proofs.MarkFacts.{mark_before-strict, in-items_of, items_of-append, pairs_in-append, pairs_in-items_of, in-pairs_in}
use Rattle.btree.proofs.Around.{Around}
use Rattle.btree.proofs.FanFacts.{AtLeaf, AtFan}

take_front : {X : Type 0} (test : X → Bool) (x : X) (xs : List X) → In x (take (front_count test xs) xs) → test x ≡ true
take_front test x [] h = absurd h
take_front test x (y ∷ xs) h = elim (cases_Bool (test y)) [
  | inl e ↦ elim (rw e at h) [ inl is ↦ rw is e | inr i ↦ take_front test x xs i ]
  | inr e ↦ absurd (rw e at h)
]

drop_front : (p x : Pair) (xs : List Pair) → IsRising is_before xs → In x (drop (front_count (λ q. is_before q p) xs) xs) → is_before x p ≡ false
drop_front p x [] r h = absurd h
drop_front p x (y ∷ xs) r h = elim (cases_Bool (is_before y p)) [
  | inl e ↦ drop_front p x xs r.1 (rw e at h)
  | inr e ↦ elim (rw e at h) [
    | inl is ↦ rw is e
    | inr i ↦ elim (cases_Bool (is_before x p)) [
      | inl up ↦ absurd (both_ways _ e (before-strict.onward y x p (r.0 x i) up))
      | inr miss ↦ miss
    ]
  ]
]

append-nil : {X : Type 0} (xs : List X) → xs ++ [] ≡ xs
append-nil [] = refl
append-nil (x ∷ xs) = ap (λ ys. x ∷ ys) (append-nil xs)

pub leaf_of_leaf :
    {seen : Seen} {pairs : List Pair} → AtLeaf seen pairs → PairsRise pairs → (p : Pair) (leaf : List Pair)
    → leaf ≡ drop (front_count (λ q. is_before q p) pairs) pairs → LeafFrom p seen.marks leaf None
leaf_of_leaf {seen} {pairs} f o p leaf e =
    let n = front_count (λ q. is_before q p) pairs in
    let R : List Pair → Type 0 = λ qs. (q : Pair) → In q qs → is_before q p ≡ false in
    record {
      before = items_of (take n pairs);
      after = [];
      is =
          f.marks
          ∙ ap items_of (sym (take-append-drop n pairs))
          ∙ items_of-append (take n pairs) (drop n pairs)
          ∙ ap (λ (ms : List Mark). items_of (take n pairs) ++ ms) (ap items_of (sym e) ∙ sym (append-nil (items_of leaf)));
      below = λ m h. let i = in-items_of m (take n pairs) h in rw i.1.0 (take_front (λ q. is_before q p) i.0 pairs i.1.1);
      reached = subst R (sym e) (λ q i. drop_front p q pairs o.rising i);
      behind = λ m h. absurd h;
    }

shift : (l a w b r : List Mark) → l ++ ((a ++ (w ++ b)) ++ r) ≡ (l ++ a) ++ (w ++ (b ++ r))
shift l a w b r = simp append_assoc

pub leaf_of_child :
    {seen : Seen} {fan : Fan Seen} {p : Pair} {i : ℕ} → AtFan seen fan → (a : Around p (children_of fan) (separators_of fan) i) → (child : Seen)
    → child ≡ get_or (children_of fan) i child → (leaf : List Pair) (next : Bor Pair) → LeafFrom p child.marks leaf (Some next)
    → LeafFrom p seen.marks leaf (Some next)
leaf_of_child {seen} {fan} {p} {i} f a child is leaf next g = record {
  before = a.l ++ g.before;
  after = g.after ++ a.r;
  is =
      f.marks ∙ a.is child ∙ ap (λ (c : Seen). a.l ++ (c.marks ++ a.r)) (sym is)
      ∙ ap (λ (ms : List Mark). a.l ++ (ms ++ a.r)) g.is
      ∙ shift a.l g.before (items_of leaf) (Between next.now ∷ g.after) a.r;
  below = λ m h. elim (in_either m a.l g.before h) [ inl k ↦ a.below m k | inr k ↦ g.below m k ];
  reached = g.reached;
  behind = λ m h. elim h [
    | inl e ↦ g.behind m (inl e)
    | inr k ↦ elim (in_either m g.after a.r k) [ inl n ↦ g.behind m (inr n) | inr n ↦ a.above m n ]
  ];
}

pub leaf_at_end :
    {seen : Seen} {fan : Fan Seen} {p : Pair} {i : ℕ} → AtFan seen fan → (a : Around p (children_of fan) (separators_of fan) i) → (child : Seen)
    → child ≡ get_or (children_of fan) i child → (leaf : List Pair) (next : Option (Bor Pair)) (rest : List Mark) → LeafFrom p child.marks leaf None
    → a.r ≡ next_marks next rest → LeafFrom p seen.marks leaf next
leaf_at_end {seen} {fan} {p} {i} f a child is leaf next rest g e =
    let B : List Mark → Type 0 = λ ms. (m : Mark) → In m ms → mark_before (Item p) m ≡ true in
    record {
      before = a.l ++ g.before;
      after = rest;
      is =
          f.marks ∙ a.is child ∙ ap (λ (c : Seen). a.l ++ (c.marks ++ a.r)) (sym is)
          ∙ ap (λ (ms : List Mark). a.l ++ (ms ++ a.r)) g.is
          ∙ shift a.l g.before (items_of leaf) [] a.r
          ∙ ap (λ (ms : List Mark). (a.l ++ g.before) ++ (items_of leaf ++ ms)) e;
      below = λ m h. elim (in_either m a.l g.before h) [ inl k ↦ a.below m k | inr k ↦ g.below m k ];
      reached = g.reached;
      behind = subst B e a.above;
    }

-- the same of the pairs
from-below : (p : Pair) (a b : List Pair) → ((q : Pair) → In q a → is_before q p ≡ true) → from p (a ++ b) ≡ from p b
from-below p [] b h = refl
from-below p (q ∷ a) b h = rw (h q (inl refl)) (from-below p a b (λ r i. h r (inr i)))

from-not_below : (p : Pair) (b : List Pair) → ((q : Pair) → In q b → is_before q p ≡ false) → from p b ≡ b
from-not_below p [] h = refl
from-not_below p (q ∷ b) h = rw (h q (inl refl)) refl

pub record Leaving (p : Pair) (pairs leaf : List Pair) (next : Option (Bor Pair)) : Type 0 where
  pub is : from p pairs ≡ leaf ++ from_next next pairs

pairs_behind :
    (next : Option (Bor Pair)) (before : List Mark) (leaf : List Pair) (after : List Mark)
    → IsRising mark_before (before ++ (items_of leaf ++ next_marks next after))
    → from_next next (pairs_in (before ++ (items_of leaf ++ next_marks next after))) ≡ pairs_in (next_marks next after)
pairs_behind None before leaf after r = refl
pairs_behind (Some next) before leaf after r =
    let a = before ++ items_of leaf in
    let shape : before ++ (items_of leaf ++ Between next.now ∷ after) ≡ a
    ++ Between next.now ∷ after = sym (append_assoc before (items_of leaf) (Between next.now ∷ after)) in
    let R : List Mark → Type 0 = λ ms. IsRising mark_before ms in
    let j = rising_parts mark_before a (Between next.now ∷ after) (subst R shape r) in
    ap (λ (ms : List Mark). from next.now (pairs_in ms)) shape
    ∙ ap (from next.now) (pairs_in-append a (Between next.now ∷ after))
    ∙ from-below next.now (pairs_in a) (pairs_in after) (λ q i. j.apart (Item q) (Between next.now) (in-pairs_in q a i) (inl refl))
    ∙ from-not_below next.now (pairs_in after) (λ q i. not-true _ (j.right.0 (Item q) (in-pairs_in q after i)))

pub leaving :
    (p : Pair) (marks : List Mark) (leaf : List Pair) (next : Option (Bor Pair)) → IsRising mark_before marks → LeafFrom p marks leaf next
    → Leaving p (pairs_in marks) leaf next
leaving p marks leaf next r g =
    let R : List Mark → Type 0 = λ ms. IsRising mark_before ms in
    let tail = next_marks next g.after in
    let tail_pairs : pairs_in (items_of leaf ++ tail) ≡ leaf ++ pairs_in tail = pairs_in-append (items_of leaf) tail
    ∙ ap (λ (ps : List Pair). ps ++ pairs_in tail) (pairs_in-items_of leaf) in
    let split : pairs_in marks ≡ pairs_in g.before ++ (leaf ++ pairs_in tail) =
    ap pairs_in g.is ∙ pairs_in-append g.before (items_of leaf ++ tail) ∙ ap (λ (ps : List Pair). pairs_in g.before ++ ps) tail_pairs in
    record {
      is =
          ap (from p) split
          ∙ from-below p (pairs_in g.before) (leaf ++ pairs_in tail) (λ q i. g.below (Item q) (in-pairs_in q g.before i))
          ∙ from-not_below p (leaf ++ pairs_in tail) (λ q i. elim (in_either q leaf (pairs_in tail) i) [
            | inl k ↦ g.reached q k
            | inr k ↦ one_way before-strict p q (g.behind (Item q) (in-pairs_in q tail k))
          ])
          ∙ ap (λ (ps : List Pair). leaf ++ ps) (sym (ap (λ (ms : List Mark). from_next next (pairs_in ms)) g.is
          ∙ pairs_behind next g.before leaf g.after (subst R g.is r)));
    }

pub told :
    {p : Pair} {marks : List Mark} {leaf : List Pair} {was next : Option (Bor Pair)} → LeafFrom p marks leaf was → was ≡ next → LeafFrom p marks leaf next
told {p} {marks} {leaf} {was} {next} g e = let L : Option (Bor Pair) → Type 0 = λ o. LeafFrom p marks leaf o in subst L e g

pub next_above : (p : Pair) (marks : List Mark) (leaf : List Pair) (next : Option (Bor Pair)) → LeafFrom p marks leaf next → NextAbove p marks next
next_above p marks leaf None g = tt
next_above p marks leaf (Some next) g =
    let I : List Mark → Type 0 = λ ms. In (Between next.now) ms in (
      g.behind (Between next.now) (inl refl),
      subst I (sym g.is)
          (in_right (Between next.now) g.before _ (in_right (Between next.now) (items_of leaf) _ (inl refl))),
    )

above-le : (s n : Pair) (marks : List Mark) → is_before s n ≡ true → above n marks ≤ above s marks
above-le s n [] h = omega arith
above-le s n (m ∷ marks) h = elim (cases_Bool (mark_before (Between n) m)) [
  | inl e ↦ rw (e, mark_before-strict.onward (Between s) (Between n) m h e) (omega (arith, above-le s n marks h))
  | inr e ↦ elim (cases_Bool (mark_before (Between s) m)) [
    | inl f ↦ rw (e, f) (omega (arith, above-le s n marks h))
    | inr f ↦ rw (e, f) (above-le s n marks h)
  ]
]

pub above-lt : (s n : Pair) (marks : List Mark) → is_before s n ≡ true → In (Between n) marks → above n marks < above s marks
above-lt s n [] h i = absurd i
above-lt s n (m ∷ marks) h i = elim i [
  | inl is ↦
      let no_itself : mark_before (Between n) m ≡ false = let P : Mark → Type 0 = λ x. mark_before (Between n) x
      ≡ false in subst P is (mark_before-strict.not_itself (Between n)) in
      let yes_above : mark_before (Between s) m ≡ true = let P : Mark → Type 0 = λ x. mark_before (Between s) x ≡ true in subst P is h in
      rw (no_itself, yes_above) (omega (arith, above-le s n marks h))
  | inr k ↦ elim (cases_Bool (mark_before (Between n) m)) [
    | inl e ↦ rw (e, mark_before-strict.onward (Between s) (Between n) m h e) (omega (arith, above-lt s n marks h k))
    | inr e ↦ elim (cases_Bool (mark_before (Between s) m)) [
      | inl f ↦ rw (e, f) (omega (arith, above-lt s n marks h k))
      | inr f ↦ rw (e, f) (above-lt s n marks h k)
    ]
  ]
]

pub above_next-lt : (s : Pair) (next : Option (Bor Pair)) (marks : List Mark) → NextAbove s marks next → above_next next marks < suc (above s marks)
above_next-lt s None marks h = omega arith
above_next-lt s (Some next) marks h = omega (arith, above-lt s next.now marks h.0 h.1)

pub from_least : (ps : List Pair) → from (record { key = []; rid = record { page = 0; slot = 0 } }) ps ≡ ps
from_least ps = from-not_below _ ps (λ q i. least_pair q)

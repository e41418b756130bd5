-- How marks grow by a pair.
use Rattle.std.proofs.Common.{◌≡◌, ◌<◌, true, false, not, List, [], ◌∷◌, ◌++◌, length, get_or, refl, sym, ap, ◌∙◌, subst, inl, inr, arith, append_assoc}
use Rattle.std.proofs.lemmas.Bool.{not_from_false}
use Rattle.keybytes.specs.declared.pair.Pair.{Pair}
use Rattle.tree_nodes.specs.Lists.{In, IsRising, put}
use Rattle.tree_nodes.specs.Order.{is_before}
use Rattle.btree.specs.Marks.{Mark, Item, Between, mark_before, items_of, pairs_in}
use Rattle.btree.specs.Grown.{GrownBy}
use Rattle.tree_nodes.proofs.Strict.{before-strict}
use Rattle.tree_nodes.proofs.Rising.{in_left, in_right, in_either, rising_parts, rising_joined, in_put, rising_put}
use Rattle.btree.proofs.Middles.{put-middle}
use Rattle.btree.proofs.MarkFacts.{mark_before-strict, rising-items_of, items_of-append, pairs_in-items_of, pairs_in-append, in-items_of, in-pairs_in}

onward : (a b c : Mark) → mark_before a b ≡ true → mark_before b c ≡ true → mark_before a c ≡ true
onward = mark_before-strict.onward

items_in : (q : Pair) (ps : List Pair) → In q ps → In (Item q) (items_of ps)
items_in q [] h = absurd h
items_in q (p ∷ ps) h = elim h [ inl e ↦ inl (ap Item e) | inr i ↦ inr (items_in q ps i) ]

-- in the middle of other marks
pub grown_inside :
    (p : Pair) (l w r new : List Mark) → GrownBy p w new → IsRising mark_before (l ++ (w ++ r)) → ((y : Mark) → In y l → mark_before y (Item p) ≡ true)
    → ((y : Mark) → In y r → mark_before (Item p) y ≡ true) → GrownBy p (l ++ (w ++ r)) (l ++ (new ++ r))
grown_inside p l w r new g rise before behind =
    let j = rising_parts mark_before l (w ++ r) rise in
    let k = rising_parts mark_before w r j.right in
    let tail : IsRising mark_before (new ++ r) = rising_joined mark_before new r (record {
      left = g.rising;
      right = k.right;
      apart = λ x y h i. g.below y (λ z n. k.apart z y n i) (behind y i) x h;
    }) in
    record {
      rising = rising_joined mark_before l (new ++ r) (record {
        left = j.left;
        right = tail;
        apart = λ x y h i. elim (in_either y new r i) [
          | inl n ↦ g.above x (λ z m. j.apart x z h (in_left z w r m)) (before x h) y n
          | inr n ↦ j.apart x y h (in_right y w r n)
        ];
      });
      pairs =
          pairs_in-append l (new ++ r)
          ∙ ap (λ ps. pairs_in l ++ ps) (pairs_in-append new r ∙ ap (λ ps. ps ++ pairs_in r) g.pairs)
          ∙ sym (put-middle before-strict p (pairs_in l) (pairs_in w) (pairs_in r) (λ q i. before (Item q) (in-pairs_in q l i))
          (λ q i. behind (Item q) (in-pairs_in q r i)))
          ∙ ap (put is_before p) (sym (pairs_in-append l (w ++ r) ∙ ap (λ ps. pairs_in l ++ ps) (pairs_in-append w r)));
      above = λ m h u x i. elim (in_either x l (new ++ r) i) [
        | inl n ↦ h x (in_left x l (w ++ r) n)
        | inr n ↦ elim (in_either x new r n) [
          | inl q ↦ g.above m (λ z v. h z (in_right z l (w ++ r) (in_left z w r v))) u x q
          | inr q ↦ h x (in_right x l (w ++ r) (in_right x w r q))
        ]
      ];
      below = λ m h u x i. elim (in_either x l (new ++ r) i) [
        | inl n ↦ h x (in_left x l (w ++ r) n)
        | inr n ↦ elim (in_either x new r n) [
          | inl q ↦ g.below m (λ z v. h z (in_right z l (w ++ r) (in_left z w r v))) u x q
          | inr q ↦ h x (in_right x l (w ++ r) (in_right x w r q))
        ]
      ];
    }

-- in a leaf
pub grown_leaf : (p : Pair) (ps : List Pair) → IsRising is_before ps → GrownBy p (items_of ps) (items_of (put is_before p ps))
grown_leaf p ps rise = record {
  rising = rising-items_of _ (rising_put before-strict p ps rise);
  pairs = pairs_in-items_of _ ∙ ap (put is_before p) (sym (pairs_in-items_of ps));
  above = λ m h u x i.
      let n = in-items_of x (put is_before p ps) i in
      elim (in_put is_before p n.0 ps n.1.1) [
        | inl e ↦ rw (n.1.0, e) u
        | inr k ↦ rw n.1.0 (h (Item n.0) (items_in n.0 ps k))
      ];
  below = λ m h u x i.
      let n = in-items_of x (put is_before p ps) i in
      elim (in_put is_before p n.0 ps n.1.1) [
        | inl e ↦ rw (n.1.0, e) u
        | inr k ↦ rw n.1.0 (h (Item n.0) (items_in n.0 ps k))
      ];
}

-- a separator is added inside
pub record Parted (old new : List Mark) : Type 0 where
  pub rising : IsRising mark_before new
  pub pairs : pairs_in new ≡ pairs_in old
  pub above : (m : Mark) → ((x : Mark) → In x old → mark_before m x ≡ true) → (x : Mark) → In x new → mark_before m x ≡ true
  pub below : (m : Mark) → ((x : Mark) → In x old → mark_before x m ≡ true) → (x : Mark) → In x new → mark_before x m ≡ true

pub grown_parted : (p : Pair) (old mid new : List Mark) → Parted old mid → GrownBy p mid new → GrownBy p old new
grown_parted p old mid new a g = record {
  rising = g.rising;
  pairs = g.pairs ∙ ap (put is_before p) a.pairs;
  above = λ m h u. g.above m (a.above m h) u;
  below = λ m h u. g.below m (a.below m h) u;
}

pub parted_leaf :
    (z : Pair) (lo : List Pair) (s : Pair) (hi : List Pair) → IsRising is_before ((z ∷ lo) ++ (s ∷ hi))
    → Parted (items_of ((z ∷ lo) ++ (s ∷ hi))) (items_of (z ∷ lo) ++ Between s ∷ items_of (s ∷ hi))
parted_leaf z lo s hi rise =
    let j = rising_parts is_before (z ∷ lo) (s ∷ hi) rise in
    let whole : items_of ((z ∷ lo) ++ (s ∷ hi)) ≡ items_of (z ∷ lo) ++ items_of (s ∷ hi) = items_of-append (z ∷ lo) (s ∷ hi) in
    let inner : (x : Mark) → In x (items_of (z ∷ lo)) → In x (items_of ((z ∷ lo) ++ (s ∷ hi))) = λ x i. let V : List Mark
    → Type 0 = λ ms. In x ms in subst V (sym whole) (in_left x (items_of (z ∷ lo)) (items_of (s ∷ hi)) i) in
    let outer : (x : Mark) → In x (items_of (s ∷ hi)) → In x (items_of ((z ∷ lo) ++ (s ∷ hi))) = λ x i. let V : List Mark
    → Type 0 = λ ms. In x ms in subst V (sym whole) (in_right x (items_of (z ∷ lo)) (items_of (s ∷ hi)) i) in
    let first : mark_before (Between s) (Item s) ≡ true = not_from_false _ (before-strict.not_itself s) in
    let rest = rising-items_of (s ∷ hi) j.right in
    let tail : IsRising mark_before (Between s ∷ items_of (s ∷ hi)) =
    ((λ y h. elim h [ inl e ↦ rw e first | inr i ↦ onward (Between s) (Item s) y first (rest.0 y i) ]), rest) in
    record {
      rising = rising_joined mark_before (items_of (z ∷ lo)) (Between s ∷ items_of (s ∷ hi)) (record {
        left = rising-items_of (z ∷ lo) j.left;
        right = tail;
        apart = λ x y h i.
            let n = in-items_of x (z ∷ lo) h in
            let to : mark_before x (Between s) ≡ true = rw n.1.0 (j.apart n.0 s n.1.1 (inl refl)) in
            elim i [ inl e ↦ rw e to | inr k ↦ onward x (Between s) y to (tail.0 y k) ];
      });
      pairs = pairs_in-append (items_of (z ∷ lo)) (Between s ∷ items_of (s ∷ hi)) ∙ sym (pairs_in-append (items_of (z ∷ lo)) (items_of (s ∷ hi)))
          ∙ ap pairs_in (sym whole);
      above = λ m h x i. elim (in_either x (items_of (z ∷ lo)) (Between s ∷ items_of (s ∷ hi)) i) [
        | inl n ↦ h x (inner x n)
        | inr n ↦ elim n [
          | inl e ↦ rw e (onward m (Item z) (Between s) (h (Item z) (inl refl)) (j.apart z s (inl refl) (inl refl)))
          | inr k ↦ h x (outer x k)
        ]
      ];
      below = λ m h x i. elim (in_either x (items_of (z ∷ lo)) (Between s ∷ items_of (s ∷ hi)) i) [
        | inl n ↦ h x (inner x n)
        | inr n ↦ elim n [
          | inl e ↦ rw e (onward (Between s) (Item s) m first (h (Item s) (outer (Item s) (inl refl))))
          | inr k ↦ h x (outer x k)
        ]
      ];
    }

-- a leaf is split, and the pair goes into its lower or its upper half
pub grown_lower :
    (p s : Pair) (lo hi : List Pair) → IsRising is_before (lo ++ hi) → 0 < length lo → 0 < length hi → s ≡ get_or hi 0 s → is_before p s ≡ true
    → GrownBy p (items_of (lo ++ hi)) (items_of (put is_before p lo) ++ Between s ∷ items_of hi)
grown_lower p s [] hi rise some_lo some_hi is lt = absurd (omega arith)
grown_lower p s (z ∷ lo) [] rise some_lo some_hi is lt = absurd (omega arith)
grown_lower p s (z ∷ lo) (q ∷ hi) rise some_lo some_hi is lt =
    let Q : Pair → Type 0 = λ t. GrownBy p (items_of ((z ∷ lo) ++ (q ∷ hi))) (items_of (put is_before p (z ∷ lo)) ++ Between t ∷ items_of (q ∷ hi)) in
    let less : is_before p q ≡ true = ap (λ t. is_before p t) (sym is) ∙ lt in
    let parted = parted_leaf z lo q hi rise in
    let j = rising_parts mark_before (items_of (z ∷ lo)) (Between q ∷ items_of (q ∷ hi)) parted.rising in
    subst Q (sym is) (grown_parted p _ _ _ parted
    (grown_inside p [] (items_of (z ∷ lo)) (Between q ∷ items_of (q ∷ hi)) _ (grown_leaf p (z ∷ lo) (rising_parts is_before (z ∷ lo) (q ∷ hi) rise).left)
    parted.rising
    (λ y h. absurd h)
    (λ y h. elim h [ inl e ↦ rw e less | inr i ↦ onward (Item p) (Between q) y less (j.right.0 y i) ])))

append-nil : {X : Type 0} (xs : List X) → xs ++ [] ≡ xs
append-nil [] = refl
append-nil (x ∷ xs) = ap (λ ys. x ∷ ys) (append-nil xs)

pub grown_upper :
    (p s : Pair) (lo hi : List Pair) → IsRising is_before (lo ++ hi) → 0 < length lo → 0 < length hi → s ≡ get_or hi 0 s → is_before p s ≡ false
    → GrownBy p (items_of (lo ++ hi)) (items_of lo ++ Between s ∷ items_of (put is_before p hi))
grown_upper p s [] hi rise some_lo some_hi is lt = absurd (omega arith)
grown_upper p s (z ∷ lo) [] rise some_lo some_hi is lt = absurd (omega arith)
grown_upper p s (z ∷ lo) (q ∷ hi) rise some_lo some_hi is lt =
    let Q : Pair → Type 0 = λ t. GrownBy p (items_of ((z ∷ lo) ++ (q ∷ hi))) (items_of (z ∷ lo) ++ Between t ∷ items_of (put is_before p (q ∷ hi))) in
    let less : not (is_before p q) ≡ true = not_from_false _ (ap (λ t. is_before p t) (sym is) ∙ lt) in
    let parted = parted_leaf z lo q hi rise in
    let j = rising_parts mark_before (items_of (z ∷ lo)) (Between q ∷ items_of (q ∷ hi)) parted.rising in
    let w = items_of (q ∷ hi) in
    let l = items_of (z ∷ lo) ++ Between q ∷ [] in
    let shape : (v : List Mark) → l ++ (v ++ []) ≡ items_of (z ∷ lo) ++ Between q ∷ v = λ v. append_assoc (items_of (z ∷ lo)) (Between q ∷ []) (v ++ [])
    ∙ ap (λ (u : List Mark). items_of (z ∷ lo) ++ Between q ∷ u) (append-nil v) in
    let R : List Mark → Type 0 = λ ms. IsRising mark_before ms in
    let g = grown_inside p l w [] (items_of (put is_before p (q ∷ hi))) (grown_leaf p (q ∷ hi) (rising_parts is_before (z ∷ lo) (q ∷ hi) rise).right)
    (subst R (sym (shape w)) parted.rising)
    (λ y h. elim (in_either y (items_of (z ∷ lo)) (Between q ∷ []) h) [
      | inl i ↦ onward y (Between q) (Item p) (j.apart y (Between q) i (inl refl)) less
      | inr i ↦ elim i [ inl e ↦ rw e less | inr n ↦ absurd n ]
    ])
    (λ y h. absurd h) in
    let S : List Mark → Type 0 = λ ms. GrownBy p ms (l ++ (items_of (put is_before p (q ∷ hi)) ++ [])) in
    let T : List Mark → Type 0 = λ ms. GrownBy p (items_of (z ∷ lo) ++ Between q ∷ w) ms in
    subst Q (sym is) (grown_parted p _ _ _ parted (subst T (shape (items_of (put is_before p (q ∷ hi)))) (subst S (shape w) g)))

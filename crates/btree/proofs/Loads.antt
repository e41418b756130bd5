-- A load that takes the next pair.
use Rattle.std.proofs.Common.{◌≡◌, ◌⊎◌, ◌≤◌, true, List, [], ◌∷◌, ◌++◌, length, refl, sym, ap, ◌∙◌, subst, inl, inr, arith, append_assoc}
use Rattle.std.proofs.lemmas.Bool.{not_from_false}
use Rattle.keybytes.specs.declared.pair.Pair.{Pair}
use Rattle.tree_nodes.specs.Lists.{In, IsRising}
use Rattle.tree_nodes.specs.Order.{is_before, PairsRise}
use Rattle.tree_nodes.proofs.Rising.{in_either, rising_parts, rising_joined}
use Rattle.tree_nodes.proofs.Strict.{before-strict}
use Rattle.btree.specs.Marks.{Mark, Item, Between, mark_before, items_of, pairs_in}
use Rattle.btree.proofs.MarkFacts.{mark_before-strict, in-items_of, items_of-append, pairs_in-append, pairs_in-items_of}

rising_more : (ms : List Mark) (x : Mark) → IsRising mark_before ms → ((m : Mark) → In m ms → mark_before m x ≡ true) → IsRising mark_before (ms ++ x ∷ [])
rising_more ms x r h = rising_joined mark_before ms (x ∷ []) (record {
  left = r;
  right = ((λ y i. absurd i), tt);
  apart = λ m y i k. elim k [ inl is ↦ rw is (h m i) | inr none ↦ absurd none ];
})

-- what is behind all pairs of the last leaf is behind all marks
behind_all :
    (ms : List Mark) (ps : List Pair) (x : Mark) → IsRising mark_before (ms ++ items_of ps) → (ms ≡ []) ⊎ (1 ≤ length ps)
    → ((q : Pair) → In q ps → mark_before (Item q) x ≡ true) → (m : Mark) → In m (ms ++ items_of ps) → mark_before m x ≡ true
behind_all ms [] x r begun h m i = elim begun [
  | inl none ↦ let I : List Mark → Type 0 = λ ks. In m (ks ++ []) in absurd (subst I none i)
  | inr some ↦ absurd (omega (arith, some))
]
behind_all ms (q ∷ qs) x r begun h m i = elim (in_either m ms (items_of (q ∷ qs)) i) [
  | inl left ↦ mark_before-strict.onward m (Item q) x ((rising_parts mark_before ms (items_of (q ∷ qs)) r).apart m (Item q) left (inl refl)) (h q (inl refl))
  | inr right ↦ let n = in-items_of m (q ∷ qs) right in rw n.1.0 (h n.0 n.1.1)
]

-- pairs in order behind the marks of the full leaves and those of the last one
behind_leaf : (ms : List Mark) (ps : List Pair) (p : Pair) → IsRising is_before ((pairs_in ms ++ ps) ++ p ∷ []) → IsRising is_before (ps ++ p ∷ [])
behind_leaf ms ps p o = (rising_parts is_before (pairs_in ms) (ps ++ p ∷ []) (subst (IsRising is_before) (append_assoc (pairs_in ms) ps (p ∷ [])) o)).right

behind_each : (ms : List Mark) (ps : List Pair) (p : Pair) → IsRising is_before ((pairs_in ms ++ ps) ++ p ∷ []) → (q : Pair) → In q ps → is_before q p ≡ true
behind_each ms ps p o q i = (rising_parts is_before ps (p ∷ []) (behind_leaf ms ps p o)).apart q p i (inl refl)

-- the pair goes into the leaf
pub record Pushed (ms : List Mark) (ps : List Pair) (p : Pair) : Type 0 where
  pub leaf : PairsRise (ps ++ p ∷ [])
  pub rising : IsRising mark_before (ms ++ items_of (ps ++ p ∷ []))
  pub pairs : pairs_in ms ++ (ps ++ p ∷ []) ≡ (pairs_in ms ++ ps) ++ p ∷ []

pub pushed :
    (ms : List Mark) (ps : List Pair) (p : Pair) → IsRising mark_before (ms ++ items_of ps) → (ms ≡ []) ⊎ (1 ≤ length ps)
    → IsRising is_before ((pairs_in ms ++ ps) ++ p ∷ []) → Pushed ms ps p
pushed ms ps p r begun o =
    let R : List Mark → Type 0 = λ ks. IsRising mark_before ks in
    let shape : (ms ++ items_of ps) ++ Item p ∷ [] ≡ ms ++ items_of (ps ++ p ∷ []) =
    append_assoc ms (items_of ps) (Item p ∷ []) ∙ ap (λ (ks : List Mark). ms ++ ks) (sym (items_of-append ps (p ∷ []))) in
    record {
      leaf = record { rising = behind_leaf ms ps p o };
      rising = subst R shape (rising_more (ms ++ items_of ps) (Item p) r (behind_all ms ps (Item p) r begun (behind_each ms ps p o)));
      pairs = sym (append_assoc (pairs_in ms) ps (p ∷ []));
    }

-- the leaf is put behind the full ones, and the pair begins the next
pub record Started (ms now : List Mark) (ps : List Pair) (p separator : Pair) (leaf : List Pair) : Type 0 where
  pub rising : IsRising mark_before ((now ++ Between separator ∷ []) ++ items_of leaf)
  pub pairs : pairs_in (now ++ Between separator ∷ []) ++ leaf ≡ (pairs_in ms ++ ps) ++ p ∷ []
  pub one : length leaf ≡ 1

append-nil : {X : Type 0} (xs : List X) → xs ++ [] ≡ xs
append-nil [] = refl
append-nil (x ∷ xs) = ap (λ ys. x ∷ ys) (append-nil xs)

pub pairs_to : (ms : List Mark) (ps : List Pair) → pairs_in (ms ++ items_of ps) ≡ pairs_in ms ++ ps
pairs_to ms ps = pairs_in-append ms (items_of ps) ∙ ap (λ (qs : List Pair). pairs_in ms ++ qs) (pairs_in-items_of ps)

start_leaf :
    (ms : List Mark) (ps : List Pair) (p : Pair) → IsRising mark_before (ms ++ items_of ps) → (ms ≡ []) ⊎ (1 ≤ length ps)
    → IsRising is_before ((pairs_in ms ++ ps) ++ p ∷ []) → Started ms (ms ++ items_of ps) ps p p (p ∷ [])
start_leaf ms ps p r begun o =
    let behind = behind_all ms ps (Between p) r begun (behind_each ms ps p o) in
    let first : mark_before (Between p) (Item p) ≡ true = not_from_false _ (before-strict.not_itself p) in
    let ks = ms ++ items_of ps in
    record {
      rising = rising_more (ks ++ Between p ∷ []) (Item p) (rising_more ks (Between p) r behind) (λ m i. elim (in_either m ks (Between p ∷ []) i) [
        | inl left ↦ mark_before-strict.onward m (Between p) (Item p) (behind m left) first
        | inr right ↦ elim right [ inl is ↦ rw is first | inr none ↦ absurd none ]
      ]);
      pairs =
          ap (λ (qs : List Pair). qs ++ p ∷ []) (pairs_in-append ks (Between p ∷ []) ∙ append-nil (pairs_in ks) ∙ pairs_to ms ps);
      one = refl;
    }

pub started :
    (ms now : List Mark) (ps : List Pair) (p separator : Pair) (leaf : List Pair) → IsRising mark_before (ms ++ items_of ps) → (ms ≡ []) ⊎ (1 ≤ length ps)
    → IsRising is_before ((pairs_in ms ++ ps) ++ p ∷ []) → now ≡ ms ++ items_of ps → separator ≡ p → leaf ≡ p ∷ [] → Started ms now ps p separator leaf
started ms now ps p separator leaf r begun o is same alone =
    let N : List Mark → Type 0 = λ ks. Started ms ks ps p separator leaf in
    let S : Pair → Type 0 = λ s. Started ms (ms ++ items_of ps) ps p s leaf in
    let L : List Pair → Type 0 = λ qs. Started ms (ms ++ items_of ps) ps p p qs in
    subst N (sym is) (subst S (sym same) (subst L (sym alone) (start_leaf ms ps p r begun o)))

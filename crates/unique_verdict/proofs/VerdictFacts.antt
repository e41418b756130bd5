-- The first two shared pairs are the verdict.
use Rattle.std.proofs.Common.{◌≡◌, ℕ, true, false, List, [], ◌∷◌, refl, sym, ap, ◌∙◌, subst, inl, inr}
use Rattle.std.proofs.lemmas.Bool.{both_ways}
use Rattle.keybytes.specs.declared.pair.Pair.{Pair}
use Rattle.keybytes.specs.Pairs.{AreOrdered}
use Rattle.btree.proofs.Sets.{rises_of}
use Rattle.tree_nodes.specs.Lists.{In, IsRising}
use Rattle.tree_nodes.specs.Order.{is_before}
use Rattle.tree_nodes.proofs.Strict.{before-strict, pair_same}
use Rattle.tree_nodes.proofs.Places.{one_way}
use Rattle.unique_verdict.specs.Shared.{shared_pairs}
use Rattle.unique_verdict.specs.Verdicts.{IsUnique, IsLeast, IsVerdict, first_shared}
use Rattle.unique_verdict.proofs.Members.{one_or_two, not_one, lt_not_one}
use Rattle.unique_verdict.proofs.SharedFacts.{shared_rises, shared_there, shared_other, in_shared}
use Rattle.btree.proofs.OneKey.{between_key}

pub unique_none : (ps now : List Pair) → now ≡ [] → now ≡ shared_pairs ps → IsUnique ps
unique_none ps now e f = record {
  alone = λ p q i j k. elim (one_or_two before-strict p q) [
    | inl g ↦ g
    | inr g ↦
        let P : List Pair → Type 0 = λ l. In p l in
        absurd (subst P (sym f ∙ e) (in_shared p q ps i j (sym k) (λ h. not_one before-strict p q g (sym h))))
  ];
}

-- the other of a shared pair is shared
record Twin (p : Pair) (ps : List Pair) : Type 0 where
  other : Pair
  there : In other (shared_pairs ps)
  key_is : other.key ≡ p.key
  apart : other ≡ p → ⊥

twin : (p : Pair) (ps : List Pair) → In p (shared_pairs ps) → Twin p ps
twin p ps i = let w = shared_other p ps i in record {
  other = w.other;
  there = in_shared w.other p ps w.there (shared_there p ps i) (sym w.key_is) (λ g. w.apart (sym g));
  key_is = w.key_is;
  apart = w.apart;
}

pub never_one : (p : Pair) (ps now rest : List Pair) → now ≡ p ∷ rest → rest ≡ [] → now ≡ shared_pairs ps → ⊥
never_one p ps now rest e n f =
    let shape : shared_pairs ps ≡ p ∷ [] = sym f ∙ e ∙ ap (λ (l : List Pair). p ∷ l) n in
    let P : List Pair → Type 0 = λ l. In p l in
    let t = twin p ps (subst P (sym shape) (inl refl)) in
    let Q : List Pair → Type 0 = λ l. In t.other l in
    elim (subst Q shape t.there) [ inl i ↦ t.apart i | inr i ↦ i ]

second_key : (a b : Pair) (ps rest : List Pair) → IsRising is_before (a ∷ b ∷ rest) → shared_pairs ps ≡ a ∷ b ∷ rest → b.key ≡ a.key
second_key a b ps rest r shape =
    let P : List Pair → Type 0 = λ l. In a l in
    let t = twin a ps (subst P (sym shape) (inl refl)) in
    let Q : List Pair → Type 0 = λ l. In t.other l in
    elim (subst Q shape t.there) [
      | inl i ↦ absurd (t.apart i)
      | inr j ↦ elim j [
        | inl i ↦ ap (λ (x : Pair). x.key) (sym i) ∙ t.key_is
        | inr i ↦ between_key a b t.other (r.0 b (inl refl)) (r.1.0 t.other i) t.key_is
      ]
    ]

not_above : (p a : Pair) (rest : List Pair) → IsRising is_before (a ∷ rest) → In p (a ∷ rest) → is_before p a ≡ false
not_above p a rest r h = elim h [
  | inl i ↦ let P : Pair → Type 0 = λ x. is_before x a ≡ false in subst P (sym i) (before-strict.not_itself a)
  | inr i ↦ one_way before-strict a p (r.0 p i)
]

least_of : (a b : Pair) (ps rest : List Pair) → IsRising is_before (a ∷ b ∷ rest) → shared_pairs ps ≡ a ∷ b ∷ rest → IsLeast ps a b
least_of a b ps rest r shape =
    let o = before-strict in
    let there = λ (p q : Pair) (i : In p ps) (j : In q ps) (k : q.key ≡ p.key) (n : q ≡ p → ⊥).
    let P : List Pair → Type 0 = λ l. In p l in subst P shape (in_shared p q ps i j k n) in
    let back = λ (p : Pair) (i : In p (a ∷ b ∷ rest)). let P : List Pair → Type 0 = λ l. In p l in shared_there p ps (subst P (sym shape) i) in
    record {
      first_there = back a (inl refl);
      second_there = back b (inr (inl refl));
      apart = r.0 b (inl refl);
      first_least = λ p q i j k h. not_above p a (b ∷ rest) r (there p q i j (sym k) (λ e. lt_not_one o p q h (sym e)));
      second_least = λ p q i j k h.
          let first : is_before p a ≡ false = not_above p a (b ∷ rest) r (there p q i j (sym k) (λ e. lt_not_one o p q h (sym e))) in
          elim (there q p j i k (λ e. lt_not_one o p q h e)) [
            | inl e ↦ absurd (both_ways _ first (let P : Pair → Type 0 = λ x. is_before p x ≡ true in subst P e h))
            | inr m ↦ not_above q b rest r.1 m
          ];
    }

pub least_two : (a b : Pair) (ps now rest more : List Pair) → AreOrdered ps → now ≡ shared_pairs ps → now ≡ a ∷ rest → rest ≡ b ∷ more
    → (key : List ℕ) → key ≡ a.key → IsLeast ps (record { key = key; rid = a.rid }) (record { key = key; rid = b.rid })
least_two a b ps now rest more o f e d key k =
    let shape : shared_pairs ps ≡ a ∷ b ∷ more = sym f ∙ e ∙ ap (λ (l : List Pair). a ∷ l) d in
    let R : List Pair → Type 0 = λ l. IsRising is_before l in
    let r : IsRising is_before (a ∷ b ∷ more) = subst R shape (shared_rises ps (rises_of ps o)) in
    let L : Pair → Type 0 = λ x. IsLeast ps x (record { key = key; rid = b.rid }) in
    let M : Pair → Type 0 = λ x. IsLeast ps a x in
    subst L (pair_same a (record { key = key; rid = a.rid }) (sym k) refl)
    (subst M (pair_same b (record { key = key; rid = b.rid }) (second_key a b ps more r shape ∙ sym k) refl) (least_of a b ps more r shape))

-- it is the verdict of any pairs in order
pub verdict_right : (pairs : List Pair) → AreOrdered pairs → IsVerdict pairs (first_shared (shared_pairs pairs))
verdict_right pairs o = by_shared (shared_pairs pairs) refl where
  by_shared : (now : List Pair) → now ≡ shared_pairs pairs → IsVerdict pairs (first_shared now)
  by_shared [] f = unique_none pairs [] refl f
  by_shared (only ∷ []) f = absurd (never_one only pairs (only ∷ []) [] refl refl f)
  by_shared (first ∷ second ∷ rest) f = least_two first second pairs (first ∷ second ∷ rest) (second ∷ rest) rest o f refl refl first.key refl

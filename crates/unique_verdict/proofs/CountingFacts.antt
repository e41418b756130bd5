-- One pair more in order.
use Rattle.std.proofs.Common.{◌≡◌, ◌⊎◌, true, List, [], ◌∷◌, ◌++◌, Option, Some, None, Bor, refl, sym, ap, ◌∙◌, subst, inl, inr, append_assoc}
use Rattle.std.proofs.lemmas.Bool.{cases_Bool, both_ways}
use Rattle.keybytes.specs.declared.pair.Pair.{Pair}
use Rattle.keybytes.specs.Pairs.{AreOrdered}
use Rattle.btree.specs.TreeValue.{is_key}
use Rattle.btree.proofs.Sets.{rises_of}
use Rattle.tree_nodes.specs.Lists.{In, IsRising, put}
use Rattle.tree_nodes.specs.Order.{is_before}
use Rattle.tree_nodes.proofs.Strict.{before-strict}
use Rattle.tree_nodes.proofs.Places.{one_way}
use Rattle.tree_nodes.proofs.Rising.{in_right, in_either, rising_parts}
use Rattle.unique_verdict.specs.Shared.{shared_pairs}
use Rattle.unique_verdict.specs.Counting.{counted}
use Rattle.btree.proofs.OneKey.{key_same, has_same, between_key}
use Rattle.unique_verdict.proofs.Members.{lt_not_one}
use Rattle.unique_verdict.proofs.SharedChanges.{put_alone, put_shared}

-- the last of the pairs, if there is one
abbrev pub IsLast : Option (Bor Pair) → List Pair → Type 0
IsLast None seen = seen ≡ []
IsLast (Some last) seen = In last.now seen × ((p : Pair) → In p seen → (p ≡ last.now) ⊎ (is_before p last.now ≡ true))

-- the tally of the pairs that aren't left
pub record IsTallied (pairs left : List Pair) (before : Option (Bor Pair)) (shared : List Pair) : Type 0 where
  pub seen : List Pair
  pub whole : seen ++ left ≡ pairs
  pub last : IsLast before seen
  pub is : shared ≡ shared_pairs seen

put_behind : (p : Pair) (a : List Pair) → ((q : Pair) → In q a → is_before q p ≡ true) → put is_before p a ≡ a ++ p ∷ []
put_behind p [] h = refl
put_behind p (q ∷ a) h =
    let less : is_before q p ≡ true = h q (inl refl) in
    rw (one_way before-strict q p less, less) (ap (λ ps. q ∷ ps) (put_behind p a (λ r i. h r (inr i))))

counted_more : (before : Option (Bor Pair)) (p : Pair) (seen shared : List Pair) → IsRising is_before seen → ((q : Pair) → In q seen
    → is_before q p ≡ true) → IsLast before seen → shared ≡ shared_pairs seen → counted before p shared ≡ shared_pairs (put is_before p seen)
counted_more None p seen shared r h last e =
    e ∙ sym (put_alone p seen r (λ q i k. let P : List Pair → Type 0 = λ l. In q l in subst P last i))
counted_more (Some b) p seen shared r h last e = elim (cases_Bool (is_key p.key b.now)) [
  | inl f ↦ rw f (
      ap (λ (l : List Pair). put is_before p (put is_before b.now l)) e
      ∙ sym (put_shared p b.now seen r last.0 (key_same p.key b.now f) (lt_not_one before-strict b.now p (h b.now last.0)))
      )
  | inr f ↦ rw f (
      e ∙ sym (put_alone p seen r (λ q i k. both_ways _ f (has_same p.key b.now (elim (last.1 q i) [
        | inl g ↦ ap (λ (x : Pair). x.key) (sym g) ∙ k
        | inr g ↦ between_key q b.now p g (h b.now last.0) (sym k) ∙ k
      ]))))
      )
]

pub tallied_none : (pairs left shared : List Pair) → left ≡ pairs → shared ≡ [] → IsTallied pairs left None shared
unfolding shared_pairs
tallied_none pairs left shared e f = record { seen = []; whole = e; last = refl; is = f }

pub tallied_more : (pairs left rest shared new : List Pair) (before : Option (Bor Pair)) (b : Bor Pair) → AreOrdered pairs
    → IsTallied pairs left before shared → left ≡ b.now ∷ rest → new ≡ counted before b.now shared → IsTallied pairs rest (Some b) new
tallied_more pairs left rest shared new before b o t e f =
    let p : Pair = b.now in
    let whole : t.seen ++ p ∷ rest ≡ pairs = ap (λ (ps : List Pair). t.seen ++ ps) (sym e) ∙ t.whole in
    let R : List Pair → Type 0 = λ ps. IsRising is_before ps in
    let j = rising_parts is_before t.seen (p ∷ rest) (subst R (sym whole) (rises_of pairs o)) in
    let below : (q : Pair) → In q t.seen → is_before q p ≡ true = λ q i. j.apart q p i (inl refl) in
    record {
      seen = t.seen ++ p ∷ [];
      whole = append_assoc t.seen (p ∷ []) rest ∙ whole;
      last = (
        in_right p t.seen (p ∷ []) (inl refl),
        λ q i. elim (in_either q t.seen (p ∷ []) i) [
          | inl k ↦ inr (below q k)
          | inr k ↦ elim k [ inl g ↦ inl g | inr g ↦ absurd g ]
        ],
      );
      is = f ∙ counted_more before p t.seen shared j.left below t.last t.is ∙ ap shared_pairs (put_behind p t.seen below);
    }

append-nil : (xs : List Pair) → xs ++ [] ≡ xs
append-nil [] = refl
append-nil (x ∷ xs) = ap (λ ys. x ∷ ys) (append-nil xs)

pub tallied_all : (pairs left shared : List Pair) (before : Option (Bor Pair)) → IsTallied pairs left before shared → left ≡ [] → shared ≡ shared_pairs pairs
tallied_all pairs left shared before t e =
    t.is ∙ ap shared_pairs (sym (append-nil t.seen) ∙ ap (λ (ps : List Pair). t.seen ++ ps) (sym e) ∙ t.whole)

-- The pairs of a key, and how many they are.
use Rattle.std.proofs.Common.{◌≡◌, ◌⊎◌, ℕ, Bool, true, false, List, [], ◌∷◌, map, Option, refl, sym, ap, ◌∙◌, subst, inl, inr}
use Rattle.std.specs.Prelude as prelude
use Rattle.std.specs.List.{filter, slice_get}
use Rattle.std.proofs.lemmas.Bool.{false≢true}
use Rattle.keybytes.specs.declared.pair.Pair.{Pair}
use Rattle.keybytes.specs.declared.rid.Rid.{Rid}
use Rattle.tree_nodes.specs.Lists.{In, IsRising, without}
use Rattle.tree_nodes.specs.Order.{is_before}
use Rattle.tree_nodes.proofs.Strict.{before-strict, pair_same}
use Rattle.btree.specs.TreeValue.{is_key, rids_of}
use Rattle.unique_verdict.specs.Holders.{holders}
use Rattle.unique_verdict.specs.declared.key_holders.KeyHolders.{KeyHolders}
use Rattle.unique_verdict.specs.declared.key_holders.KeyHolders.TheVariants.{None, One, Two, More}
use Rattle.unique_verdict.specs.Shared.{shared_pairs}
use Rattle.unique_verdict.proofs.Members.{one_or_two, not_one, lt_not_one, without_keeps}
use Rattle.btree.proofs.OneKey.{key_same, has_same}
use Rattle.unique_verdict.proofs.Others.{Other, NoOnly}
use Rattle.unique_verdict.proofs.SharedFacts.{in_filter, filter_in, rising_filter, shared_rises, shared_there, shared_other, in_shared}

-- the pairs of a key
pub record OfKey (key : List ℕ) (pairs left : List Pair) : Type 0 where
  pub within : (x : Pair) → In x left → In x pairs
  pub have : (x : Pair) → In x left → x.key ≡ key
  pub all : (x : Pair) → In x pairs → x.key ≡ key → In x left
  pub rising : IsRising is_before left

of_key : (key : List ℕ) (pairs : List Pair) → IsRising is_before pairs → OfKey key pairs (filter (is_key key) pairs)
of_key key pairs r = record {
  within = λ x h. (in_filter (is_key key) x pairs h).0;
  have = λ x h. key_same key x (in_filter (is_key key) x pairs h).1;
  all = λ x h e. filter_in (is_key key) x pairs h (has_same key x e);
  rising = rising_filter (is_key key) pairs r;
}

abbrev is_some : Option Rid → Bool
is_some prelude.None = false
is_some (prelude.Some rid) = true

abbrev rid_or : Rid → Option Rid → Rid
rid_or d prelude.None = d
rid_or d (prelude.Some rid) = rid

none_left : (key : List ℕ) (pairs left : List Pair) → OfKey key pairs left → slice_get (map (λ p. p.rid) left) 0 ≡ prelude.None
    → (p : Pair) → In p pairs → p.key ≡ key → ⊥
none_left key pairs [] f e p i k = f.all p i k
none_left key pairs (q ∷ qs) f e p i k = absurd (false≢true (ap is_some (sym e)))

some_left : (key : List ℕ) (pairs left : List Pair) (r : Rid) → OfKey key pairs left → slice_get (map (λ p. p.rid) left) 0 ≡ prelude.Some r
    → In (record { key = key; rid = r }) pairs
some_left key pairs [] r f e = absurd (false≢true (ap is_some e))
some_left key pairs (q ∷ qs) r f e =
    let P : Pair → Type 0 = λ x. In x pairs in
    subst P (pair_same q (record { key = key; rid = r }) (f.have q (inl refl)) (ap (rid_or r) e)) (f.within q (inl refl))

-- no RID has the key
pub none_has : (key : List ℕ) (pairs : List Pair) → IsRising is_before pairs → slice_get (rids_of key pairs) 0 ≡ prelude.None
    → (p : Pair) → In p pairs → p.key ≡ key → ⊥
none_has key pairs r e = none_left key pairs _ (of_key key pairs r) e

pub least_has : (key : List ℕ) (pairs : List Pair) (rid : Rid) → IsRising is_before pairs → slice_get (rids_of key pairs) 0 ≡ prelude.Some rid
    → In (record { key = key; rid = rid }) pairs
least_has key pairs rid r e = some_left key pairs _ rid (of_key key pairs r) e

abbrev is_two : KeyHolders → Bool
is_two None = false
is_two (One a) = false
is_two (Two a b) = true
is_two (More a) = false

abbrev first_or : Rid → KeyHolders → Rid
first_or d None = d
first_or d (One a) = d
first_or d (Two a b) = a
first_or d (More a) = d

abbrev second_or : Rid → KeyHolders → Rid
second_or d None = d
second_or d (One a) = d
second_or d (Two a b) = b
second_or d (More a) = d

two_left : (key : List ℕ) (pairs left : List Pair) (a b : Rid) → OfKey key pairs left → holders (map (λ p. p.rid) left) ≡ Two a b
    → (z : Pair) → In z pairs → z.key ≡ key → (z ≡ (record { key = key; rid = a })) ⊎ (z ≡ (record { key = key; rid = b }))
two_left key pairs [] a b f e z i k = absurd (false≢true (ap is_two e))
two_left key pairs (q ∷ []) a b f e z i k = absurd (false≢true (ap is_two e))
two_left key pairs (q ∷ s ∷ []) a b f e z i k = elim (f.all z i k) [
  | inl j ↦ inl (pair_same z (record { key = key; rid = a }) k (ap (λ (x : Pair). x.rid) j ∙ ap (first_or a) e))
  | inr j ↦ elim j [
    | inl h ↦ inr (pair_same z (record { key = key; rid = b }) k (ap (λ (x : Pair). x.rid) h ∙ ap (second_or b) e))
    | inr h ↦ absurd h
  ]
]
two_left key pairs (q ∷ s ∷ t ∷ qs) a b f e z i k = absurd (false≢true (ap is_two e))

-- two RIDs have the key
pub two_have : (key : List ℕ) (pairs : List Pair) (a b : Rid) → IsRising is_before pairs → holders (rids_of key pairs) ≡ Two a b
    → (z : Pair) → In z pairs → z.key ≡ key → (z ≡ (record { key = key; rid = a })) ⊎ (z ≡ (record { key = key; rid = b }))
two_have key pairs a b r e = two_left key pairs _ a b (of_key key pairs r) e

-- one of three that is neither of two
record Free (q s t p z : Pair) : Type 0 where
  other : Pair
  there : In other (q ∷ s ∷ t ∷ [])
  not_p : other ≡ p → ⊥
  not_z : other ≡ z → ⊥

free : (q s t p z : Pair) → (q ≡ s → ⊥) → (q ≡ t → ⊥) → (s ≡ t → ⊥) → Free q s t p z
free q s t p z qs qt st = elim (one_or_two before-strict q p) [
  | inl e ↦ elim (one_or_two before-strict s z) [
    | inl f ↦ record { other = t; there = inr (inr (inl refl)); not_p = λ g. qt (e ∙ sym g); not_z = λ g. st (f ∙ sym g) }
    | inr f ↦ record { other = s; there = inr (inl refl); not_p = λ g. qs (e ∙ sym g); not_z = not_one before-strict s z f }
  ]
  | inr e ↦ elim (one_or_two before-strict q z) [
    | inl f ↦ elim (one_or_two before-strict s p) [
      | inl h ↦ record { other = t; there = inr (inr (inl refl)); not_p = λ g. st (h ∙ sym g); not_z = λ g. qt (f ∙ sym g) }
      | inr h ↦ record { other = s; there = inr (inl refl); not_p = not_one before-strict s p h; not_z = λ g. qs (f ∙ sym g) }
    ]
    | inr f ↦ record { other = q; there = inl refl; not_p = not_one before-strict q p e; not_z = not_one before-strict q z f }
  ]
]

in_three : (x q s t : Pair) (qs : List Pair) → In x (q ∷ s ∷ t ∷ []) → In x (q ∷ s ∷ t ∷ qs)
in_three x q s t qs (inl e) = inl e
in_three x q s t qs (inr (inl e)) = inr (inl e)
in_three x q s t qs (inr (inr (inl e))) = inr (inr (inl e))
in_three x q s t qs (inr (inr (inr e))) = absurd e

more_left :
    (p : Pair) (pairs left : List Pair) → OfKey p.key pairs left → In p pairs → Other p pairs
    → ((a b : Rid) → holders (map (λ x. x.rid) left) ≡ Two a b → ⊥) → NoOnly p.key (without is_before p pairs)
more_left p pairs [] f here twin n = absurd (f.all p here refl)
more_left p pairs (q ∷ []) f here twin n = elim (f.all p here refl) [
  | inl e ↦ elim (f.all twin.other twin.there twin.key_is) [ inl g ↦ absurd (twin.apart (g ∙ sym e)) | inr g ↦ absurd g ]
  | inr e ↦ absurd e
]
more_left p pairs (q ∷ s ∷ []) f here twin n = absurd (n q.rid s.rid refl)
more_left p pairs (q ∷ s ∷ t ∷ qs) f here twin n =
    let o = before-strict in
    let r = f.rising in
    record {
      others = λ z i k.
          let w = free q s t p z (lt_not_one o q s (r.0 s (inl refl))) (lt_not_one o q t (r.0 t (inr (inl refl)))) (lt_not_one o s t (r.1.0 t (inl refl))) in
          let in_left = in_three w.other q s t qs w.there in
          record {
            other = w.other;
            there = without_keeps o p w.other pairs (f.within w.other in_left) w.not_p;
            key_is = f.have w.other in_left ∙ sym k;
            apart = w.not_z;
          };
    }

-- a shared pair's key, which not just two have
pub more_have :
    (p : Pair) (ps : List Pair) → IsRising is_before ps → In p (shared_pairs ps) → ((a b : Rid) → holders (rids_of p.key (shared_pairs ps)) ≡ Two a b → ⊥)
    → NoOnly p.key (without is_before p (shared_pairs ps))
more_have p ps r here n =
    let w = shared_other p ps here in
    let w_in = in_shared w.other p ps w.there (shared_there p ps here) (sym w.key_is) (λ g. w.apart (sym g)) in
    more_left p (shared_pairs ps) _ (of_key p.key (shared_pairs ps) (shared_rises ps r)) here
    (record { other = w.other; there = w_in; key_is = w.key_is; apart = w.apart }) n

-- The shared pairs as members.
use Rattle.std.proofs.Common.{◌≡◌, Bool, true, false, ◌&&◌, ◌||◌, List, [], ◌∷◌, refl, sym, subst, inl, inr}
use Rattle.std.proofs.lemmas.Bool.{cases_Bool, both_ways, false≢true}
use Rattle.std.specs.List.{filter}
use Rattle.keybytes.specs.declared.pair.Pair.{Pair}
use Rattle.tree_nodes.specs.Lists.{In, IsRising}
use Rattle.tree_nodes.specs.Order.{is_before}
use Rattle.tree_nodes.proofs.Strict.{before-strict}
use Rattle.unique_verdict.proofs.Others.{Other}
use Rattle.unique_verdict.specs.Shared.{clash, is_shared, shared_pairs}
use Rattle.btree.proofs.OneKey.{key_same, has_same}
use Rattle.unique_verdict.proofs.Members.{one_or_two, not_one}

and_left : (a b : Bool) → (a && b) ≡ true → a ≡ true
and_left true b e = refl
and_left false b e = e

and_right : (a b : Bool) → (a && b) ≡ true → b ≡ true
and_right true b e = e
and_right false b e = absurd (false≢true e)

clash_makes : (p q : Pair) → q.key ≡ p.key → (q ≡ p → ⊥) → clash p q ≡ true
clash_makes p q e n = rw (has_same p.key q e) (elim (one_or_two before-strict p q) [ inl f ↦ absurd (n (sym f)) | inr f ↦ f ])

shared_by : (p : Pair) (pairs : List Pair) → is_shared p pairs ≡ true → Other p pairs
shared_by p [] h = absurd (false≢true h)
shared_by p (q ∷ qs) h = elim (cases_Bool (clash p q)) [
  | inl e ↦ record {
    other = q;
    there = inl refl;
    key_is = key_same p.key q (and_left _ _ e);
    apart = λ f. not_one before-strict p q (and_right _ _ e) (sym f);
  }
  | inr e ↦ let o = shared_by p qs (rw e at h) in record { other = o.other; there = inr o.there; key_is = o.key_is; apart = o.apart }
]

or_right : (a b : Bool) → b ≡ true → (a || b) ≡ true
or_right true b e = refl
or_right false b e = e

by_shared : (p q : Pair) (pairs : List Pair) → In q pairs → q.key ≡ p.key → (q ≡ p → ⊥) → is_shared p pairs ≡ true
by_shared p q [] h e n = absurd h
by_shared p q (r ∷ rs) h e n = elim h [
  | inl i ↦ let P : Pair → Type 0 = λ x. (clash p x || is_shared p rs) ≡ true in subst P i (rw (clash_makes p q e n) refl)
  | inr i ↦ or_right (clash p r) _ (by_shared p q rs i e n)
]

pub in_filter : (test : Pair → Bool) (x : Pair) (ps : List Pair) → In x (filter test ps) → In x ps × (test x ≡ true)
in_filter test x [] h = absurd h
in_filter test x (p ∷ ps) h = elim (cases_Bool (test p)) [
  | inl e ↦ elim (rw e at h) [
    | inl i ↦ (inl i, let P : Pair → Type 0 = λ z. test z ≡ true in subst P (sym i) e)
    | inr i ↦ let k = in_filter test x ps i in (inr k.0, k.1)
  ]
  | inr e ↦ let k = in_filter test x ps (rw e at h) in (inr k.0, k.1)
]

pub filter_in : (test : Pair → Bool) (x : Pair) (ps : List Pair) → In x ps → test x ≡ true → In x (filter test ps)
filter_in test x [] h t = h
filter_in test x (p ∷ ps) h t = elim (cases_Bool (test p)) [
  | inl e ↦ rw e (elim h [ inl i ↦ inl i | inr i ↦ inr (filter_in test x ps i t) ])
  | inr e ↦ rw e (elim h [ inl i ↦ absurd (both_ways _ e (let P : Pair → Type 0 = λ z. test z ≡ true in subst P i t)) | inr i ↦ filter_in test x ps i t ])
]

pub rising_filter : (test : Pair → Bool) (ps : List Pair) → IsRising is_before ps → IsRising is_before (filter test ps)
rising_filter test [] r = tt
rising_filter test (p ∷ ps) r = elim (cases_Bool (test p)) [
  | inl e ↦ rw e ((λ y h. r.0 y (in_filter test y ps h).0), rising_filter test ps r.1)
  | inr e ↦ rw e (rising_filter test ps r.1)
]

-- shared pairs as members
pub shared_rises : (ps : List Pair) → IsRising is_before ps → IsRising is_before (shared_pairs ps)
unfolding shared_pairs
shared_rises ps r = rising_filter _ ps r

pub shared_there : (x : Pair) (ps : List Pair) → In x (shared_pairs ps) → In x ps
unfolding shared_pairs
shared_there x ps h = (in_filter (λ p. is_shared p ps) x ps h).0

pub shared_other : (x : Pair) (ps : List Pair) → In x (shared_pairs ps) → Other x ps
unfolding shared_pairs
shared_other x ps h = shared_by x ps (in_filter (λ p. is_shared p ps) x ps h).1

pub in_shared : (x q : Pair) (ps : List Pair) → In x ps → In q ps → q.key ≡ x.key → (q ≡ x → ⊥) → In x (shared_pairs ps)
unfolding shared_pairs
in_shared x q ps h k e n = filter_in (λ p. is_shared p ps) x ps h (by_shared x q ps k e n)

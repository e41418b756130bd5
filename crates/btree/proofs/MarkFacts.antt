-- Marks, and the pairs among them.
use Rattle.std.proofs.Common.{◌≡◌, true, false, not, ◌||◌, List, [], ◌∷◌, ◌++◌, refl, sym, ap, subst, inl, inr}
use Rattle.std.proofs.lemmas.Bool.{both_ways, cases_Bool, not_from_false, not-true, not-false}
use Rattle.keybytes.specs.declared.pair.Pair.{Pair}
use Rattle.tree_nodes.specs.Lists.{In, IsRising, IsStrict, same_by, has, without}
use Rattle.tree_nodes.specs.Order.{is_before}
use Rattle.btree.specs.Marks.{Mark, Item, Between, mark_before, items_of, pairs_in}
use Rattle.tree_nodes.proofs.Strict.{before-strict}

onward : (a b c : Pair) → is_before a b ≡ true → is_before b c ≡ true → is_before a c ≡ true
onward = before-strict.onward

-- a < b and b ≤ c
pub lt_le : (a b c : Pair) → is_before a b ≡ true → is_before c b ≡ false → is_before a c ≡ true
lt_le a b c p q = elim (cases_Bool (is_before a c)) [
  | inl e ↦ e
  | inr e ↦ elim (cases_Bool (is_before c a)) [
    | inl f ↦ absurd (both_ways _ q (onward c a b f p))
    | inr f ↦ absurd (both_ways _ q (subst (λ x. is_before x b ≡ true) (before-strict.tied a c e f) p))
  ]
]

-- a ≤ b and b < c
pub le_lt : (a b c : Pair) → is_before b a ≡ false → is_before b c ≡ true → is_before a c ≡ true
le_lt a b c p q = elim (cases_Bool (is_before a c)) [
  | inl e ↦ e
  | inr e ↦ elim (cases_Bool (is_before c a)) [
    | inl f ↦ absurd (both_ways _ p (onward b c a q f))
    | inr f ↦ absurd (both_ways _ p (subst (λ x. is_before b x ≡ true) (sym (before-strict.tied a c e f)) q))
  ]
]

-- what is behind b isn't before a, where a is before b
not_back : (a b c : Pair) → is_before a b ≡ true → is_before c b ≡ false → not (is_before c a) ≡ true
not_back a b c p q = elim (cases_Bool (is_before c a)) [
  | inl e ↦ absurd (both_ways _ q (onward c a b e p))
  | inr e ↦ not_from_false _ e
]

not_back_from : (a b c : Pair) → is_before b a ≡ false → is_before b c ≡ true → not (is_before c a) ≡ true
not_back_from a b c p q = elim (cases_Bool (is_before c a)) [
  | inl e ↦ absurd (both_ways _ p (onward b c a q e))
  | inr e ↦ not_from_false _ e
]

mark-onward : (a b c : Mark) → mark_before a b ≡ true → mark_before b c ≡ true → mark_before a c ≡ true
mark-onward (Item a) (Item b) (Item c) p q = onward a b c p q
mark-onward (Item a) (Item b) (Between c) p q = onward a b c p q
mark-onward (Item a) (Between b) (Item c) p q = lt_le a b c p (not-true _ q)
mark-onward (Item a) (Between b) (Between c) p q = onward a b c p q
mark-onward (Between a) (Item b) (Item c) p q = not_back_from a b c (not-true _ p) q
mark-onward (Between a) (Item b) (Between c) p q = le_lt a b c (not-true _ p) q
mark-onward (Between a) (Between b) (Item c) p q = not_back a b c p (not-true _ q)
mark-onward (Between a) (Between b) (Between c) p q = onward a b c p q

mark-not_itself : (a : Mark) → mark_before a a ≡ false
mark-not_itself (Item a) = before-strict.not_itself a
mark-not_itself (Between a) = before-strict.not_itself a

mark-tied : (a b : Mark) → mark_before a b ≡ false → mark_before b a ≡ false → a ≡ b
mark-tied (Item a) (Item b) p q = ap Item (before-strict.tied a b p q)
mark-tied (Item a) (Between b) p q = absurd (both_ways _ p (not-false _ q))
mark-tied (Between a) (Item b) p q = absurd (both_ways _ q (not-false _ p))
mark-tied (Between a) (Between b) p q = ap Between (before-strict.tied a b p q)

pub mark_before-strict : IsStrict mark_before
mark_before-strict = record { not_itself = mark-not_itself; onward = mark-onward; tied = mark-tied }

-- leaves
pub has-items_of : (p : Pair) (ps : List Pair) → has mark_before (Item p) (items_of ps) ≡ has is_before p ps
has-items_of p [] = refl
has-items_of p (q ∷ ps) = ap (λ b. same_by is_before p q || b) (has-items_of p ps)

pub without-items_of : (p : Pair) (ps : List Pair) → without mark_before (Item p) (items_of ps) ≡ items_of (without is_before p ps)
without-items_of p [] = refl
without-items_of p (q ∷ ps) =
    elim (cases_Bool (same_by is_before p q)) [ inl e ↦ rw e refl | inr e ↦ rw e (ap (λ ms. Item q ∷ ms) (without-items_of p ps)) ]

pub in-items_of : (m : Mark) (ps : List Pair) → In m (items_of ps) → (p : Pair) × ((m ≡ Item p) × In p ps)
in-items_of m [] h = absurd h
in-items_of m (q ∷ ps) h = elim h [
  | inl e ↦ (q, (e, inl refl))
  | inr i ↦ let n = in-items_of m ps i in (n.0, (n.1.0, inr n.1.1))
]

pub rising-items_of : (ps : List Pair) → IsRising is_before ps → IsRising mark_before (items_of ps)
rising-items_of [] r = tt
rising-items_of (p ∷ ps) r = ((λ m h. let n = in-items_of m ps h in rw n.1.0 (r.0 n.0 n.1.1)), rising-items_of ps r.1)

pub items_of-append : (a b : List Pair) → items_of (a ++ b) ≡ items_of a ++ items_of b
items_of-append [] b = refl
items_of-append (p ∷ a) b = ap (λ ms. Item p ∷ ms) (items_of-append a b)

pub pairs_in-items_of : (ps : List Pair) → pairs_in (items_of ps) ≡ ps
pairs_in-items_of [] = refl
pairs_in-items_of (p ∷ ps) = ap (λ qs. p ∷ qs) (pairs_in-items_of ps)

pub pairs_in-append : (a b : List Mark) → pairs_in (a ++ b) ≡ pairs_in a ++ pairs_in b
pairs_in-append [] b = refl
pairs_in-append (Item p ∷ a) b = ap (λ ps. p ∷ ps) (pairs_in-append a b)
pairs_in-append (Between p ∷ a) b = pairs_in-append a b

pub in-pairs_in : (p : Pair) (ms : List Mark) → In p (pairs_in ms) → In (Item p) ms
in-pairs_in p [] h = absurd h
in-pairs_in p (Item q ∷ ms) h = elim h [ inl e ↦ inl (ap Item e) | inr i ↦ inr (in-pairs_in p ms i) ]
in-pairs_in p (Between q ∷ ms) h = inr (in-pairs_in p ms h)

-- What two keys have in common.
use Rattle.std.proofs.Common.{◌≡◌, ℕ, ◌+◌, ◌≤◌, ◌<◌, zero, suc, List, [], ◌∷◌, ◌++◌, length, get_or, take, drop, refl, sym, ap, ◌∙◌, arith, inl, inr}
use Rattle.std.proofs.lemmas.Bool.{eq-eqb, ne_eqb, cases_eq}
use Rattle.std.proofs.lemmas.List.{drop_all, take-append-drop}
use Rattle.prefix_spool.specs.PrefixBytes.{shared}

-- it is no more than the first has
pub shared_le : (a b : List ℕ) → shared a b ≤ length a
shared_le [] b = omega arith
shared_le (x ∷ a) [] = omega arith
shared_le (x ∷ a) (y ∷ b) =
    elim (cases_eq x y) [
      | inl e ↦ rw (eq-eqb x y e) (omega (arith, shared_le a b))
      | inr ne ↦ rw (ne_eqb x y ne) (omega arith)
    ]

-- nor than the second has
pub shared_within : (a b : List ℕ) → shared a b ≤ length b
shared_within [] b = omega arith
shared_within (x ∷ a) [] = omega arith
shared_within (x ∷ a) (y ∷ b) =
    elim (cases_eq x y) [
      | inl e ↦ rw (eq-eqb x y e) (omega (arith, shared_within a b))
      | inr ne ↦ rw (ne_eqb x y ne) (omega arith)
    ]

-- it is the same in both
pub shared_same : (a b : List ℕ) → take (shared a b) a ≡ take (shared a b) b
shared_same [] b = refl
shared_same (x ∷ a) [] = refl
shared_same (x ∷ a) (y ∷ b) =
    elim (cases_eq x y) [
      | inl e ↦ rw (eq-eqb x y e) (cc (e, shared_same a b))
      | inr ne ↦ rw (ne_eqb x y ne) refl
    ]

-- no more is the same
pub shared_greatest : (n : ℕ) (a b : List ℕ) → n ≤ length a → n ≤ length b → take n a ≡ take n b → n ≤ shared a b
shared_greatest zero a b h g e = omega arith
shared_greatest (suc n) [] b h g e = absurd (omega arith)
shared_greatest (suc n) (x ∷ a) [] h g e = absurd (omega arith)
shared_greatest (suc n) (x ∷ a) (y ∷ b) h g e =
    let head : x ≡ y = ap (λ (xs : List ℕ). get_or xs 0 0) e in
    let tail : take n a ≡ take n b = ap (λ (xs : List ℕ). drop 1 xs) e in
    rw (eq-eqb x y head) (omega (arith, shared_greatest n a b (omega arith) (omega arith) tail))

-- a key, by what it shares with another
pub key_back : (a b : List ℕ) → take (shared a b) a ++ drop (shared a b) b ≡ b
key_back a b = ap (λ (xs : List ℕ). xs ++ drop (shared a b) b) (shared_same a b) ∙ take-append-drop (shared a b) b

-- a step of the comparison
pub shared_more : (a b : List ℕ) (n : ℕ) → n < length a → n < length b → get_or a n 0 ≡ get_or b n 0 →
    shared (drop n a) (drop n b) ≡ suc (shared (drop (suc n) a) (drop (suc n) b))
shared_more [] b n h g e = absurd (omega arith)
shared_more (x ∷ a) [] n h g e = absurd (omega arith)
shared_more (x ∷ a) (y ∷ b) zero h g e = rw (eq-eqb x y e) refl
shared_more (x ∷ a) (y ∷ b) (suc n) h g e = shared_more a b n (omega arith) (omega arith) e

-- where it ends
pub shared_ends : (a b : List ℕ) (n : ℕ) → n < length a → n < length b → (get_or a n 0 ≡ get_or b n 0 → ⊥) → shared (drop n a) (drop n b) ≡ 0
shared_ends [] b n h g e = absurd (omega arith)
shared_ends (x ∷ a) [] n h g e = absurd (omega arith)
shared_ends (x ∷ a) (y ∷ b) zero h g e = rw (ne_eqb x y e) refl
shared_ends (x ∷ a) (y ∷ b) (suc n) h g e = shared_ends a b n (omega arith) (omega arith) e

none_right : (xs : List ℕ) → shared xs [] ≡ 0
none_right [] = refl
none_right (x ∷ xs) = refl

pub ends_left : (a b : List ℕ) (n : ℕ) → length a ≤ n → shared (drop n a) (drop n b) ≡ 0
ends_left a b n h = ap (λ (xs : List ℕ). shared xs (drop n b)) (drop_all n a h)

pub ends_right : (a b : List ℕ) (n : ℕ) → length b ≤ n → shared (drop n a) (drop n b) ≡ 0
ends_right a b n h = ap (shared (drop n a)) (drop_all n b h) ∙ none_right (drop n a)

-- so many are the same in both, if none behind them is
pub front_same : (a b : List ℕ) (n : ℕ) → shared a b ≡ n + shared (drop n a) (drop n b) → shared (drop n a) (drop n b) ≡ 0 → take n a ≡ take n b
front_same a b n all none =
    let e : shared a b ≡ n = omega arith in
    ap (λ (k : ℕ). take k a) (sym e) ∙ shared_same a b ∙ ap (λ (k : ℕ). take k b) e

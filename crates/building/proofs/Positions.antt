-- The first element of a list that passes a test.
use Rattle.std.proofs.Common.{◌≡◌, ℕ, zero, suc, ◌<◌, ◌≤◌, Bool, true, false, List, [], ◌∷◌, length, map, Some, None, inl, inr, ◌+◌, refl, sym, ap, ◌∙◌, subst}
use Rattle.std.proofs.Common.{arith}
use Rattle.std.specs.Prelude.{cond, nat_lt}
use Rattle.std.specs.List.{position, position_or_len, slice_get}
use Rattle.std.proofs.lemmas.Bool.{cases_lt, false≢true, lt-ltb}
use Rattle.std.proofs.lemmas.List.{length-map}
use Rattle.page_workers.proofs.Places.{below}

module _ {X : Type 0} (test : X → Bool) where
  first_place :
      (xs : List X) (i : ℕ) (y : X) → ((k : ℕ) (x : X) → k < i → slice_get xs k ≡ Some x → test x ≡ false) → slice_get xs i ≡ Some y → test y ≡ true
      → position_or_len test xs ≡ i
  first_place [] i y before at passes = absurd (cc)
  first_place (x ∷ xs) zero y before at passes =
      let here : test x ≡ true = ap test (let same : x ≡ y = cc in same) ∙ passes in
      rw here refl
  first_place (x ∷ xs) (suc i) y before at passes =
      let fails : test x ≡ false = before 0 x (omega arith) refl in
      let rest = first_place xs i y (λ k z less there. before (suc k) z (omega (arith, less)) there) at passes in
      rw fails (omega (arith, rest))

  no_place : (xs : List X) → ((k : ℕ) (x : X) → slice_get xs k ≡ Some x → test x ≡ false) → position_or_len test xs ≡ length xs
  no_place [] each = refl
  no_place (x ∷ xs) each =
      let fails : test x ≡ false = each 0 x refl in
      let rest = no_place xs (λ k z there. each (suc k) z there) in
      rw fails (omega (arith, rest))

  -- the first that passes
  pub first_here :
      (xs : List X) (i : ℕ) (y : X) → ((k : ℕ) (x : X) → k < i → slice_get xs k ≡ Some x → test x ≡ false) → slice_get xs i ≡ Some y → test y ≡ true
      → Some i ≡ position test xs
  first_here xs i y before at passes =
      let less : i < length xs = below xs i y at in
      let place = first_place xs i y before at passes in
      rw (place) (search (less, arith))

  -- none passes
  pub none_here : (xs : List X) → ((k : ℕ) (x : X) → slice_get xs k ≡ Some x → test x ≡ false) → None ≡ position test xs
  none_here xs each = let place = no_place xs each in rw place (search arith)

  same_place : {Y : Type 0} (f : Y → X) (ys : List Y) → position_or_len test (map f ys) ≡ position_or_len (λ (y : Y). test (f y)) ys
  same_place f [] = refl
  same_place f (y ∷ ys) = rw (same_place f ys) refl

  -- what is made of a list passes where it passes
  pub position_of : {Y : Type 0} (f : Y → X) (ys : List Y) → position test (map f ys) ≡ position (λ (y : Y). test (f y)) ys
  position_of f ys = rw (same_place f ys, length-map ys f) refl

  -- where none is the first that passes none passes
  none_passes : (xs : List X) (k : ℕ) (x : X) → length xs ≤ position_or_len test xs → slice_get xs k ≡ Some x → test x ≡ false
  none_passes [] k x far at = absurd (cc)
  none_passes (y ∷ ys) k x far at = by_first (test y) refl (λ j rest there. none_passes ys j x rest there) k at where
    by_first :
        (b : Bool) → test y ≡ b → ((j : ℕ) → length ys ≤ position_or_len test ys → slice_get ys j ≡ Some x → test x ≡ false) → (k : ℕ)
        → slice_get (y ∷ ys) k ≡ Some x → test x ≡ false
    by_first true here others k there =
        absurd (let less : suc (length ys) ≤ 0 = subst (λ (n : ℕ). suc (length ys) ≤ n) (rw here refl) far in omega (arith, less))
    by_first false here others zero there = ap test (let same : x ≡ y = cc in same) ∙ here
    by_first false here others (suc j) there =
        let rest : suc (length ys) ≤ 1 + position_or_len test ys = subst (λ (n : ℕ). suc (length ys) ≤ n) (rw here refl) far in
        others j (omega (arith, rest)) there

  pub all_fail : (xs : List X) → position test xs ≡ None → (k : ℕ) (x : X) → slice_get xs k ≡ Some x → test x ≡ false
  all_fail xs none k x at = by_test (nat_lt (position_or_len test xs) (length xs)) refl where
    by_test : (b : Bool) → nat_lt (position_or_len test xs) (length xs) ≡ b → test x ≡ false
    by_test true less = absurd (let bad : Some (position_or_len test xs) ≡ None = subst (λ (b : Bool). cond b (Some (position_or_len test xs)) None ≡ None) less none in cc)
    by_test false more = none_passes xs k x (elim (cases_lt (position_or_len test xs) (length xs)) [
      | inl less ↦ absurd (false≢true (sym more ∙ lt-ltb (position_or_len test xs) (length xs) less))
      | inr far ↦ far
    ]) at

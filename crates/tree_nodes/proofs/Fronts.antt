-- How many at the front_count pass.
use Rattle.std.proofs.Common.{◌≡◌, ℕ, zero, suc, ◌<◌, ◌≤◌, Bool, true, false, cond, List, [], ◌∷◌, length, get_or, refl, inl, inr, arith}
use Rattle.tree_nodes.specs.Lists.{In, IsRising, front_count}

pub front_count-le-length : {X : Type 0} (test : X → Bool) (xs : List X) → front_count test xs ≤ length xs
front_count-le-length test [] = omega arith
front_count-le-length test (x ∷ xs) = elim (test x) as (λ b. cond b (suc (front_count test xs)) 0 ≤ suc (length xs)) [ true ↦ omega (arith, front_count-le-length test xs) | false ↦ omega arith ]

-- one that fails bounds it
pub front_fails : {X : Type 0} (test : X → Bool) (xs : List X) (m : ℕ) (d : X) → m < length xs → test (get_or xs m d) ≡ false → front_count test xs ≤ m
front_fails test [] m d h e = omega arith
front_fails test (x ∷ xs) zero d h e = rw e (omega arith)
front_fails test (x ∷ xs) (suc m) d h e =
    elim (test x) as (λ b. cond b (suc (front_count test xs)) 0 ≤ suc m) [ true ↦ omega (arith, front_fails test xs m d (omega arith) e) | false ↦ omega arith ]

pub in_get : {X : Type 0} (xs : List X) (m : ℕ) (d : X) → m < length xs → In (get_or xs m d) xs
in_get [] m d h = absurd (omega arith)
in_get (x ∷ xs) zero d h = inl refl
in_get (x ∷ xs) (suc m) d h = inr (in_get xs m d (omega arith))

-- one that passes has all before it pass
pub front_passes : {X : Type 0} (lt : X → X → Bool) (test : X → Bool) → ((x y : X) → lt x y ≡ true → test y ≡ true → test x ≡ true) → (xs : List X) (m : ℕ) (d : X) → IsRising lt xs → m < length xs → test (get_or xs m d) ≡ true → m < front_count test xs
front_passes lt test down [] m d r h e = absurd (omega arith)
front_passes lt test down (x ∷ xs) zero d r h e = rw e (omega arith)
front_passes lt test down (x ∷ xs) (suc m) d r h e =
    rw (down x _ (r.0 _ (in_get xs m d (omega arith))) e) (omega (arith, front_passes lt test down xs m d r.1 (omega arith) e))

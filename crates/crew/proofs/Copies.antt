-- Copies of a list from a place on, one after another.
use Rattle.std.proofs.Common.{◌≡◌, ℕ, zero, suc, ◌+◌, List, [], ◌∷◌, ◌++◌, map, drop, Some, sym, ap, ◌∙◌, append_assoc, arith}
use Rattle.std.specs.List.{slice_get}
use Rattle.std.proofs.lemmas.List.{map-append}
use Rattle.std.proofs.lemmas.Option.{same_Some}

drop_there : {X : Type 0} (xs : List X) (n : ℕ) (x : X) → slice_get xs n ≡ Some x → drop n xs ≡ x ∷ drop (n + 1) xs
drop_there [] n x at = absurd (cc)
drop_there (y ∷ ys) zero x at = ap (λ z. z ∷ ys) (same_Some y x at)
drop_there (y ∷ ys) (suc n) x at =
    let next : suc n + 1 ≡ suc (n + 1) = omega arith in
    drop_there ys n x at ∙ ap (λ z. x ∷ z) (ap (λ m. drop m (y ∷ ys)) (sym next))

-- one more was copied
pub copies_more :
    {X Y Z : Type 0} (f : X → Z) (g : Y → Z) (xs : List X) (x : X) (ys : List Y) (n : ℕ) (y : Y) → slice_get ys n ≡ Some y → f x ≡ g y
    → map f (xs ++ x ∷ []) ++ map g (drop (n + 1) ys) ≡ map f xs ++ map g (drop n ys)
copies_more f g xs x ys n y at same =
    ap (λ (l : List _). l ++ map g (drop (n + 1) ys)) (map-append f xs (x ∷ []))
    ∙ append_assoc (map f xs) (f x ∷ []) (map g (drop (n + 1) ys))
    ∙ ap (λ (l : List _). map f xs ++ l) (ap (λ z. z ∷ map g (drop (n + 1) ys)) same ∙ ap (map g) (sym (drop_there ys n y at)))

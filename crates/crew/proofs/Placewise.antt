-- Loads that ran, place by place.
use Rattle.std.proofs.Common.{◌≡◌, ℕ, zero, suc, ◌+◌, List, [], ◌∷◌, ◌++◌, set, take, drop, Some, sym, subst, ◌∙◌, arith}
use Rattle.std.specs.List.{AllZip, slice_get}
use Rattle.std.proofs.lemmas.Option.{same_Some}

-- lists one after the other
pub zip_append :
    {A B : Type 0} (R : A → B → Type 0) (xs zs : List A) (ys ws : List B) → AllZip R xs ys → AllZip R zs ws → AllZip R (xs ++ zs) (ys ++ ws)
zip_append R [] zs [] ws one other = other
zip_append R [] zs (y ∷ ys) ws one other = absurd one
zip_append R (x ∷ xs) zs [] ws one other = absurd one
zip_append R (x ∷ xs) zs (y ∷ ys) ws one other = (one.0, zip_append R xs zs ys ws one.1 other)

-- the first so many changed, and then the next one does
pub zip_more :
    {A : Type 0} (R : A → A → Type 0) (old now : List A) (i : ℕ) (x y : A) → AllZip R (take i old) (take i now) → drop i now ≡ drop i old
    → slice_get now i ≡ Some x → R x y → AllZip R (take (i + 1) old) (take (i + 1) (set now i y)) × (drop (i + 1) (set now i y) ≡ drop (i + 1) old)
zip_more R [] [] i x y ran left at it = absurd (cc)
zip_more R [] (z ∷ zs) zero x y ran left at it = absurd (cc)
zip_more R [] (z ∷ zs) (suc i) x y ran left at it = absurd ran
zip_more R (o ∷ os) [] i x y ran left at it = absurd (cc)
zip_more R (o ∷ os) (z ∷ zs) zero x y ran left at it =
    let first : z ≡ o = cc in
    let rest : zs ≡ os = cc in
    ((subst (λ a. R a y) (sym (same_Some z x at) ∙ first) it, tt), rest)
zip_more R (o ∷ os) (z ∷ zs) (suc i) x y ran left at it =
    let more = zip_more R os zs i x y ran.1 left at it in
    let e : suc i + 1 ≡ suc (i + 1) = omega arith in
    rw e ((ran.0, more.0), more.1)

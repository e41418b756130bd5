-- Two lists that a relation holds of, place by place, where the first is read up to a place.
use Rattle.std.proofs.Common.{◌≡◌, ℕ, zero, suc, ◌+◌, ◌<◌, get_or, List, [], ◌∷◌, ◌++◌, length, take, arith, add-one, ap, refl}
use Rattle.std.specs.List.{AllZip}

zip_next : {A B : Type 0} (R : A → B → Type 0) (xs : List A) (ys : List B) (i : ℕ) (d : A) (y : B)
    → i < length xs → AllZip R (take i xs) ys → R (get_or xs i d) y → AllZip R (take (suc i) xs) (ys ++ y ∷ [])
zip_next R [] ys i d y inside all one = absurd (omega arith)
zip_next R (x ∷ xs) [] zero d y inside all one = (one, tt)
zip_next R (x ∷ xs) [] (suc i) d y inside all one = absurd all
zip_next R (x ∷ xs) (z ∷ zs) zero d y inside all one = absurd all
zip_next R (x ∷ xs) (z ∷ zs) (suc i) d y inside all one = (all.0, zip_next R xs zs i d y (omega arith) all.1 one)

-- one more at the end of both
pub zip_push : {A B : Type 0} (R : A → B → Type 0) (xs : List A) (ys : List B) (x : A) (y : B) → AllZip R xs ys → R x y → AllZip R (xs ++ x ∷ []) (ys ++ y ∷ [])
zip_push R [] [] x y all one = (one, tt)
zip_push R [] (w ∷ ws) x y all one = absurd all
zip_push R (z ∷ zs) [] x y all one = absurd all
zip_push R (z ∷ zs) (w ∷ ws) x y all one = (all.0, zip_push R zs ws x y all.1 one)

-- what belongs to the first part of a list, and what to those behind
pub zip_split : {A B : Type 0} (R : A → B → Type 0) (xs more : List A) (all : List B) → AllZip R (xs ++ more) all
    → (some : List B) × (others : List B) × (all ≡ some ++ others) × AllZip R xs some × AllZip R more others
zip_split R [] more all each = ([], all, refl, tt, each)
zip_split R (x ∷ xs) more [] each = absurd each
zip_split {A} {B} R (x ∷ xs) more (y ∷ ys) each =
    let rest = zip_split R xs more ys each.1 in
    (y ∷ rest.0, rest.1, ap (λ (values : List B). y ∷ values) rest.2, (each.0, rest.3), rest.4)

-- one place more is read, and one value more put behind
pub zip_more : {A B : Type 0} (R : A → B → Type 0) (xs : List A) (ys more : List B) (i : ℕ) (d : A) (y : B)
    → i < length xs → more ≡ ys ++ y ∷ [] → AllZip R (take i xs) ys → R (get_or xs i d) y → AllZip R (take (i + 1) xs) more
zip_more R xs ys more i d y inside is all one = rw (is, add-one) (zip_next R xs ys i d y inside all one)

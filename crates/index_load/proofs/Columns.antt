-- Of a list with an element for each worker and index, the elements for one index: taken out, put back, and changed.
use Rattle.std.proofs.Common.{◌≡◌, ℕ, zero, suc, ◌+◌, ◌*◌, ◌≤◌, ◌⊎◌, List, [], ◌∷◌, length, map, Some, refl, sym, ap, ap₂, ◌∙◌, inl, inr, arith, zero-add}
use Rattle.std.specs.List.{slice_get, remove, insert}
use Rattle.std.proofs.lemmas.Option.{same_Some}
use Rattle.std.proofs.Math.Nat.{suc-mul}
use Rattle.index_load.specs.Columns.{every, all_but, with_every}

-- where the next of them stand
next_place : (n w : ℕ) → suc (w * suc n + n) ≡ suc w * suc n + 0
next_place n w = let e = suc-mul w (suc n) in omega (arith, e)

pub one_more : (k n : ℕ) → suc (k + n) ≡ suc k + n
one_more k n = omega arith

-- each stands behind so many others of each before it
pub every_at : {X : Type 0} (n k : ℕ) (xs : List X) (w : ℕ) → slice_get (every n k xs) w ≡ slice_get xs (w * suc n + k)
every_at n k [] w = refl
every_at n zero (x ∷ xs) zero = ap (slice_get (x ∷ xs)) (let e : 0 ≡ 0 * suc n + 0 = omega arith in e)
every_at n zero (x ∷ xs) (suc w) = every_at n n xs w ∙ ap (slice_get (x ∷ xs)) (next_place n w)
every_at n (suc k) (x ∷ xs) w = every_at n k xs w ∙ ap (slice_get (x ∷ xs)) (let e : suc (w * suc n + k) ≡ w * suc n + suc k = omega arith in e)

-- one of them that is removed
pub every_removed :
    {X : Type 0} (n k : ℕ) (xs : List X) (x : X) → slice_get xs k ≡ Some x → every n k xs ≡ x ∷ every n (k + n) (remove xs k)
every_removed n k [] x at = absurd (cc)
every_removed n zero (y ∷ ys) x at = ap₂ ◌∷◌ (same_Some y x at) (ap (λ i. every n i ys) (sym (zero-add n)))
every_removed n (suc k) (y ∷ ys) x at = every_removed n k ys x at ∙ ap (λ i. x ∷ every n i (y ∷ remove ys k)) (one_more k n)

pub all_but_removed : {X : Type 0} (n k : ℕ) (xs : List X) (x : X) → slice_get xs k ≡ Some x → all_but n k xs ≡ all_but n (k + n) (remove xs k)
all_but_removed n k [] x at = absurd (cc)
all_but_removed n zero (y ∷ ys) x at = ap (λ i. all_but n i ys) (sym (zero-add n))
all_but_removed n (suc k) (y ∷ ys) x at =
    ap (λ l. y ∷ l) (all_but_removed n k ys x at) ∙ ap (λ i. all_but n i (y ∷ remove ys k)) (one_more k n)

-- none is behind the last
pub every_behind : {X : Type 0} (n k : ℕ) (xs : List X) → length xs ≤ k → every n k xs ≡ []
every_behind n k [] behind = refl
every_behind n zero (x ∷ xs) behind = absurd (omega (arith, behind))
every_behind n (suc k) (x ∷ xs) behind = every_behind n k xs (omega (arith, behind))

pub all_but_behind : {X : Type 0} (n k : ℕ) (xs : List X) → length xs ≤ k → all_but n k xs ≡ xs
all_but_behind n k [] behind = refl
all_but_behind n zero (x ∷ xs) behind = absurd (omega (arith, behind))
all_but_behind n (suc k) (x ∷ xs) behind = ap (λ l. x ∷ l) (all_but_behind n k xs (omega (arith, behind)))

-- one that is put in its place
pub every_put : {X : Type 0} (n k : ℕ) (xs : List X) (x : X) → k ≤ length xs → every n k (insert xs k x) ≡ x ∷ every n (k + n) xs
every_put n zero xs x within = ap (λ i. x ∷ every n i xs) (sym (zero-add n))
every_put n (suc k) [] x within = absurd (omega (arith, within))
every_put n (suc k) (y ∷ ys) x within =
    every_put n k ys x (omega (arith, within)) ∙ ap (λ i. x ∷ every n i (y ∷ ys)) (one_more k n)

pub all_but_put : {X : Type 0} (n k : ℕ) (xs : List X) (x : X) → k ≤ length xs → all_but n k (insert xs k x) ≡ all_but n (k + n) xs
all_but_put n zero xs x within = ap (λ i. all_but n i xs) (sym (zero-add n))
all_but_put n (suc k) [] x within = absurd (omega (arith, within))
all_but_put n (suc k) (y ∷ ys) x within =
    ap (λ l. y ∷ l) (all_but_put n k ys x (omega (arith, within))) ∙ ap (λ i. all_but n i (y ∷ ys)) (one_more k n)

-- lists are the same whose parts are
pub same_parts : {X : Type 0} (n k : ℕ) (xs ys : List X) → every n k xs ≡ every n k ys → all_but n k xs ≡ all_but n k ys → xs ≡ ys
same_parts n k [] [] own others = refl
same_parts n zero [] (y ∷ ys) own others = absurd (cc)
same_parts n (suc k) [] (y ∷ ys) own others = absurd (cc)
same_parts n zero (x ∷ xs) [] own others = absurd (cc)
same_parts n (suc k) (x ∷ xs) [] own others = absurd (cc)
same_parts n zero (x ∷ xs) (y ∷ ys) own others =
    let first : x ≡ y = cc in
    let rest : every n n xs ≡ every n n ys = cc in
    ap₂ ◌∷◌ first (same_parts n n xs ys rest others)
same_parts n (suc k) (x ∷ xs) (y ∷ ys) own others =
    let first : x ≡ y = cc in
    let rest : all_but n k xs ≡ all_but n k ys = cc in
    ap₂ ◌∷◌ first (same_parts n k xs ys own rest)

-- the parts of a list where its elements are seen so
pub every_map : {X Y : Type 0} (f : X → Y) (n k : ℕ) (xs : List X) → every n k (map f xs) ≡ map f (every n k xs)
every_map f n k [] = refl
every_map f n zero (x ∷ xs) = ap (λ l. f x ∷ l) (every_map f n n xs)
every_map f n (suc k) (x ∷ xs) = every_map f n k xs

pub all_but_map : {X Y : Type 0} (f : X → Y) (n k : ℕ) (xs : List X) → all_but n k (map f xs) ≡ map f (all_but n k xs)
all_but_map f n k [] = refl
all_but_map f n zero (x ∷ xs) = all_but_map f n n xs
all_but_map f n (suc k) (x ∷ xs) = ap (λ l. f x ∷ l) (all_but_map f n k xs)

-- and where some of them are changed
pub every_changed : {X : Type 0} (f : X → X) (n k : ℕ) (xs : List X) → every n k (with_every f n k xs) ≡ map f (every n k xs)
every_changed f n k [] = refl
every_changed f n zero (x ∷ xs) = ap (λ l. f x ∷ l) (every_changed f n n xs)
every_changed f n (suc k) (x ∷ xs) = every_changed f n k xs

pub all_but_changed : {X : Type 0} (f : X → X) (n k : ℕ) (xs : List X) → all_but n k (with_every f n k xs) ≡ all_but n k xs
all_but_changed f n k [] = refl
all_but_changed f n zero (x ∷ xs) = all_but_changed f n n xs
all_but_changed f n (suc k) (x ∷ xs) = ap (λ l. x ∷ l) (all_but_changed f n k xs)

pub length-changed : {X : Type 0} (f : X → X) (n k : ℕ) (xs : List X) → length (with_every f n k xs) ≡ length xs
length-changed f n k [] = refl
length-changed f n zero (x ∷ xs) = ap suc (length-changed f n n xs)
length-changed f n (suc k) (x ∷ xs) = ap suc (length-changed f n k xs)

-- what a change leaves of each is what it was, or changed
pub at_changed :
    {X : Type 0} (f : X → X) (n k : ℕ) (xs : List X) (i : ℕ) (y : X) → slice_get (with_every f n k xs) i ≡ Some y
    → (x : X) × (slice_get xs i ≡ Some x) × ((y ≡ x) ⊎ (y ≡ f x))
at_changed f n k [] i y at = absurd (cc)
at_changed f n zero (x ∷ xs) zero y at = (x, refl, inr (let e : f x ≡ y = cc in sym e))
at_changed f n zero (x ∷ xs) (suc i) y at = at_changed f n n xs i y at
at_changed f n (suc k) (x ∷ xs) zero y at = (x, refl, inl (let e : x ≡ y = cc in sym e))
at_changed f n (suc k) (x ∷ xs) (suc i) y at = at_changed f n k xs i y at

-- where it changes nothing that f tells, f tells the same of all
pub kept_changed : {X Y : Type 0} (f : X → X) (g : X → Y) → ((x : X) → g (f x) ≡ g x) → (n k : ℕ) (xs : List X) → map g (with_every f n k xs) ≡ map g xs
kept_changed f g same n k [] = refl
kept_changed f g same n zero (x ∷ xs) = ap₂ ◌∷◌ (same x) (kept_changed f g same n n xs)
kept_changed f g same n (suc k) (x ∷ xs) = ap (λ l. g x ∷ l) (kept_changed f g same n k xs)

-- where those of one index are changed, those of another are as they were
pub every_elsewhere :
    {X : Type 0} (f : X → X) (n j i : ℕ) (xs : List X) → j ≤ n → i ≤ n → (j ≡ i → ⊥) → every n j (with_every f n i xs) ≡ every n j xs
every_elsewhere f n j i [] low high other = refl
every_elsewhere f n zero zero (x ∷ xs) low high other = absurd (other refl)
every_elsewhere f n zero (suc i) (x ∷ xs) low high other =
    ap (λ l. x ∷ l) (every_elsewhere f n n i xs (omega arith) (omega (arith, high)) (λ same. omega (arith, same, high)))
every_elsewhere f n (suc j) zero (x ∷ xs) low high other = every_elsewhere f n j n xs (omega (arith, low)) (omega arith) (λ same. omega (arith, same, low))
every_elsewhere f n (suc j) (suc i) (x ∷ xs) low high other =
    every_elsewhere f n j i xs (omega (arith, low)) (omega (arith, high)) (λ same. other (ap suc same))

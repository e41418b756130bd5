-- What stands in a place of a list.
use Rattle.std.proofs.Common.{◌≡◌, ℕ, zero, suc, ◌<◌, ◌⊎◌, List, [], ◌∷◌, length, map, set, get_or, Option, Some, None, refl, sym, ap, ◌∙◌, subst, inl, inr}
use Rattle.std.proofs.Common.{arith}
use Rattle.std.specs.Prelude.{replicate}
use Rattle.std.specs.List.{All, slice_get}
use Rattle.std.specs.Option.{option_map, unwrap_or}
use Rattle.std.proofs.Math.Seq.{map-set_same}
use Rattle.std.proofs.lemmas.List.{get_or-map, get_or-set_same, get_or_default, length-map, length-set}
use Rattle.std.proofs.lemmas.List.Elements.{All-head, All-tail, All-nil, All-cons}
use Rattle.std.proofs.lemmas.Option.{same_Some, slice_get-map, slice_get-get_or, unwrap_or-slice_get}

-- where one place was written, each has what was written, or what it had
pub at_set :
    {X : Type 0} (xs : List X) (i : ℕ) (y : X) (k : ℕ) (x : X) → slice_get (set xs i y) k ≡ Some x
    → ((k ≡ i) × (x ≡ y)) ⊎ ((k ≡ i → ⊥) × (slice_get xs k ≡ Some x))
at_set [] i y k x at = absurd (cc)
at_set (z ∷ zs) zero y zero x at = inl (refl, sym (same_Some y x at))
at_set (z ∷ zs) zero y (suc k) x at = inr (λ same. omega (arith, same), at)
at_set (z ∷ zs) (suc i) y zero x at = inr (λ same. omega (arith, same), at)
at_set (z ∷ zs) (suc i) y (suc k) x at = elim (at_set zs i y k x at) [
  | inl it ↦ inl (ap suc it.0, it.1)
  | inr it ↦ inr (λ same. it.0 (omega (arith, same)), it.1)
]

-- what was written in that place, and what stands in another
pub set_there : {X : Type 0} (xs : List X) (i : ℕ) (y : X) (k : ℕ) (x : X) → slice_get (set xs i y) k ≡ Some x → k ≡ i → x ≡ y
set_there xs i y k x at same = elim (at_set xs i y k x at) [
  | inl it ↦ it.1
  | inr it ↦ absurd (it.0 same)
]

pub set_elsewhere : {X : Type 0} (xs : List X) (i : ℕ) (y : X) (k : ℕ) (x : X) → slice_get (set xs i y) k ≡ Some x → (k ≡ i → ⊥) → slice_get xs k ≡ Some x
set_elsewhere xs i y k x at other = elim (at_set xs i y k x at) [
  | inl it ↦ absurd (other it.0)
  | inr it ↦ it.1
]

-- what is the same in all places
pub replicate_at : {X : Type 0} (n : ℕ) (y : X) (k : ℕ) (x : X) → slice_get (replicate n y) k ≡ Some x → x ≡ y
replicate_at zero y k x at = absurd (cc)
replicate_at (suc n) y zero x at = sym (same_Some y x at)
replicate_at (suc n) y (suc k) x at = replicate_at n y k x at

-- what holds of all holds in each place
pub all_at : {X : Type 0} (P : X → Type 0) (xs : List X) (k : ℕ) (x : X) → All P xs → slice_get xs k ≡ Some x → P x
all_at P [] k x all at = absurd (cc)
all_at P (y ∷ ys) zero x all at = subst P (same_Some y x at) (All-head P y ys all)
all_at P (y ∷ ys) (suc k) x all at = all_at P ys k x (All-tail P y ys all) at

some_map : {X Y : Type 0} (f : X → Y) (o : Option X) (y : Y) → option_map f o ≡ Some y → (x : X) × (o ≡ Some x) × (f x ≡ y)
some_map f None y is = absurd (cc)
some_map f (Some x) y is = (x, refl, same_Some (f x) y is)

-- a place of a mapped list
pub at_map : {X Y : Type 0} (f : X → Y) (xs : List X) (k : ℕ) (y : Y) → slice_get (map f xs) k ≡ Some y → (x : X) × (slice_get xs k ≡ Some x) × (f x ≡ y)
at_map f xs k y at = some_map f (slice_get xs k) y (sym (slice_get-map f xs k) ∙ at)

pub map_at : {X Y : Type 0} (f : X → Y) (xs : List X) (k : ℕ) (x : X) → slice_get xs k ≡ Some x → slice_get (map f xs) k ≡ Some (f x)
map_at f xs k x at = slice_get-map f xs k ∙ ap (option_map f) at

-- a place of two lists that f can't tell apart
pub same_at :
    {X Y : Type 0} (f : X → Y) (xs ys : List X) (k : ℕ) (y : X) → map f xs ≡ map f ys → slice_get ys k ≡ Some y
    → (x : X) × (slice_get xs k ≡ Some x) × (f x ≡ f y)
same_at f xs ys k y same at = at_map f xs k (f y) (ap (λ (l : List _). slice_get l k) same ∙ map_at f ys k y at)

-- a place has what is written there, and each other what it had
pub once_set :
    {X : Type 0} (xs : List X) (i : ℕ) (y : X) (k : ℕ) (x : X) → slice_get xs k ≡ Some x
    → ((k ≡ i) × (slice_get (set xs i y) k ≡ Some y)) ⊎ ((k ≡ i → ⊥) × (slice_get (set xs i y) k ≡ Some x))
once_set [] i y k x at = absurd (cc)
once_set (z ∷ zs) zero y zero x at = inl (refl, refl)
once_set (z ∷ zs) zero y (suc k) x at = inr (λ same. omega (arith, same), at)
once_set (z ∷ zs) (suc i) y zero x at = inr (λ same. omega (arith, same), at)
once_set (z ∷ zs) (suc i) y (suc k) x at = elim (once_set zs i y k x at) [
  | inl it ↦ inl (ap suc it.0, it.1)
  | inr it ↦ inr (λ same. it.0 (omega (arith, same)), it.1)
]

-- what f gives at a place stays, where it is the same of what is written there
pub kept : {X Y : Type 0} (f : X → Y) (xs : List X) (ys : List Y) (i : ℕ) (y d : X) → map f xs ≡ ys → f y ≡ f (get_or xs i d) → map f (set xs i y) ≡ ys
kept f xs ys i y d same e = map-set_same f xs i y d e ∙ same

-- where two lists have the same by f and by g, so has each place
pub both_at :
    {X Y Z : Type 0} (f : X → Z) (g : Y → Z) (xs : List X) (ys : List Y) (i : ℕ) (x : X) (y : Y) → map f xs ≡ map g ys → i < length xs → i < length ys
    → f (get_or xs i x) ≡ g (get_or ys i y)
both_at f g xs ys i x y same less below =
    sym (get_or-map f xs i x (f x) less) ∙ ap (λ (l : List _). get_or l i (f x)) same ∙ get_or-map g ys i y (f x) below

-- two lists that are the same by f and by g are as long
pub as_long : {X Y Z : Type 0} (f : X → Z) (g : Y → Z) (xs : List X) (ys : List Y) → map f xs ≡ map g ys → length xs ≡ length ys
as_long f g xs ys same = sym (length-map xs f) ∙ ap length same ∙ length-map ys g

-- the place that was written
pub here_set : {X : Type 0} (xs : List X) (i : ℕ) (y : X) → i < length xs → slice_get (set xs i y) i ≡ Some y
here_set xs i y less =
    slice_get-get_or (set xs i y) i y (omega (arith, less, length-set xs i y)) ∙ ap Some (get_or-set_same xs i y y less)

pub mapped : {X Y Z : Type 0} (f : X → Y) (g : Y → Z) (xs : List X) → map g (map f xs) ≡ map (λ x. g (f x)) xs
mapped f g [] = refl
mapped f g (x ∷ xs) = ap (λ ys. g (f x) ∷ ys) (mapped f g xs)

-- each place of a list has something
pub there_is : {X : Type 0} (xs : List X) (i : ℕ) → i < length xs → (x : X) × (slice_get xs i ≡ Some x)
there_is [] i less = absurd (omega (arith, less))
there_is (x ∷ xs) zero less = (x, refl)
there_is (x ∷ xs) (suc i) less = there_is xs i (omega (arith, less))

-- and what has something is a place of it
pub below : {X : Type 0} (xs : List X) (i : ℕ) (x : X) → slice_get xs i ≡ Some x → i < length xs
below [] i x at = absurd (cc)
below (y ∷ ys) zero x at = omega arith
below (y ∷ ys) (suc i) x at = let less = below ys i x at in omega (arith, less)

-- what holds in each place holds of all
pub all_from : {X : Type 0} (P : X → Type 0) (xs : List X) → ((k : ℕ) (x : X) → slice_get xs k ≡ Some x → P x) → All P xs
all_from P [] each = All-nil P
all_from P (x ∷ xs) each = All-cons P x xs (each 0 x refl) (all_from P xs (λ k y at. each (suc k) y at))

-- what holds of each place holds of what is made of it
pub mapped_of : {X Y : Type 0} (P : Y → Type 0) (f : X → Y) (xs : List X) → ((k : ℕ) (x : X) → slice_get xs k ≡ Some x → P (f x)) → All P (map f xs)
mapped_of P f xs each = all_from P (map f xs) (λ k y at. let it = at_map f xs k y at in subst P it.2 (each k it.0 it.1))

pub mapped_all : {X Y : Type 0} (P : Y → Type 0) (f : X → Y) (xs : List X) → All (λ x. P (f x)) xs → All P (map f xs)
mapped_all P f xs all = mapped_of P f xs (λ k x at. all_at (λ y. P (f y)) xs k x all at)

-- and the other way round
pub all_mapped : {X Y : Type 0} (P : Y → Type 0) (f : X → Y) (xs : List X) → All P (map f xs) → All (λ x. P (f x)) xs
all_mapped P f xs all = all_from (λ x. P (f x)) xs (λ k x at. all_at P (map f xs) k (f x) all (map_at f xs k x at))

-- a place of lists that are all empty
pub no_pair : {X : Type 0} (xs : List (List X)) (k : ℕ) → All (λ x. x ≡ []) xs → get_or xs k [] ≡ []
no_pair [] k all = refl
no_pair (x ∷ xs) zero all = All-head (λ y. y ≡ []) x xs all
no_pair (x ∷ xs) (suc k) all = no_pair xs k (All-tail (λ y. y ≡ []) x xs all)

-- and lists that are empty in each place
pub no_pairs : {X : Type 0} (xs : List (List X)) → ((k : ℕ) → k < length xs → get_or xs k [] ≡ []) → All (λ x. x ≡ []) xs
no_pairs xs each k d less = get_or_default xs k d [] less ∙ each k less

-- what is read by f at a place of two lists that have the same there
pub read_same :
    {X Y : Type 0} (f : X → List Y) (xs ys : List X) (k : ℕ) → slice_get xs k ≡ slice_get ys k → get_or (map f xs) k [] ≡ get_or (map f ys) k []
read_same f xs ys k same =
    sym (unwrap_or-slice_get (map f xs) k [])
    ∙ ap (λ (o : Option _). unwrap_or o []) (slice_get-map f xs k ∙ ap (option_map f) same ∙ sym (slice_get-map f ys k))
    ∙ unwrap_or-slice_get (map f ys) k []

-- to write what stands there changes nothing
pub set_same : {X : Type 0} (xs : List X) (i : ℕ) (x : X) → slice_get xs i ≡ Some x → set xs i x ≡ xs
set_same [] i x at = refl
set_same (y ∷ ys) zero x at = ap (λ z. z ∷ ys) (sym (same_Some y x at))
set_same (y ∷ ys) (suc i) x at = ap (λ zs. y ∷ zs) (set_same ys i x at)

-- and what was written elsewhere leaves a place as it is
pub stays_there : {X : Type 0} (xs : List X) (i : ℕ) (y : X) (k : ℕ) (x : X) → (k ≡ i → ⊥) → slice_get xs k ≡ Some x → slice_get (set xs i y) k ≡ Some x
stays_there [] i y k x other at = absurd (cc)
stays_there (z ∷ zs) zero y zero x other at = absurd (other refl)
stays_there (z ∷ zs) zero y (suc k) x other at = at
stays_there (z ∷ zs) (suc i) y zero x other at = at
stays_there (z ∷ zs) (suc i) y (suc k) x other at = stays_there zs i y k x (λ same. other (ap suc same)) at

-- a place that is told by what stands there otherwise
pub at_index : {X : Type 0} (xs : List X) (i : ℕ) (x : X) → x ≡ get_or xs i x → i < length xs → slice_get xs i ≡ Some x
at_index xs i x is less = slice_get-get_or xs i x less ∙ ap Some (sym is)

-- Of a list with an element for each worker and index: where each stands.
use Rattle.std.proofs.Common.{◌≡◌, ℕ, zero, suc, ◌+◌, ◌-◌, ◌*◌, ◌<◌, List, [], ◌∷◌, ◌++◌, length, Some, refl, sym, ap, ◌∙◌, inl, inr, arith, length-append}
use Rattle.std.specs.Prelude.{flat_map}
use Rattle.std.specs.List.{slice_get}
use Rattle.std.proofs.lemmas.Bool.{cases_lt}
use Rattle.std.proofs.lemmas.Nat.{mul-le}
use Rattle.std.proofs.lemmas.Option.{same_Some, slice_get_within}
use Rattle.std.proofs.Math.Nat.{suc-mul}
use Rattle.index_load.specs.Columns.{column}
use Rattle.index_load.proofs.Columns.{every_at}
use Rattle.page_workers.proofs.Places.{there_is}

at_front : {X : Type 0} (xs ys : List X) (i : ℕ) (x : X) → slice_get xs i ≡ Some x → slice_get (xs ++ ys) i ≡ Some x
at_front [] ys i x at = absurd (cc)
at_front (y ∷ xs) ys zero x at = at
at_front (y ∷ xs) ys (suc i) x at = at_front xs ys i x at

at_behind : {X : Type 0} (xs ys : List X) (i : ℕ) → slice_get (xs ++ ys) (length xs + i) ≡ slice_get ys i
at_behind [] ys i = ap (slice_get ys) (let e : 0 + i ≡ i = omega arith in e)
at_behind (x ∷ xs) ys i = ap (slice_get (x ∷ (xs ++ ys))) (let e : suc (length xs) + i ≡ suc (length xs + i) = omega arith in e) ∙ at_behind xs ys i

-- where each has as many, the one of the k-th stands behind those of k others
pub flat_at :
    {X Y : Type 0} (f : X → List Y) (n : ℕ) (xs : List X) → ((j : ℕ) (x : X) → slice_get xs j ≡ Some x → length (f x) ≡ n)
    → (k : ℕ) (x : X) → slice_get xs k ≡ Some x → (i : ℕ) (y : Y) → slice_get (f x) i ≡ Some y → slice_get (flat_map f xs) (k * n + i) ≡ Some y
flat_at f n [] many k x at i y own = absurd (cc)
flat_at f n (z ∷ xs) many zero x at i y own =
    ap (slice_get (f z ++ flat_map f xs)) (let e : 0 * n + i ≡ i = omega arith in e)
    ∙ at_front (f z) (flat_map f xs) i y (ap (λ v. slice_get (f v) i) (same_Some z x at) ∙ own)
flat_at f n (z ∷ xs) many (suc k) x at i y own =
    let first : length (f z) ≡ n = many 0 z refl in
    let place : suc k * n + i ≡ length (f z) + (k * n + i) = let e = suc-mul k n in omega (arith, e, first) in
    ap (slice_get (f z ++ flat_map f xs)) place ∙ at_behind (f z) (flat_map f xs) (k * n + i)
    ∙ flat_at f n xs (λ j v there. many (suc j) v there) k x at i y own

-- and all together have so many
pub flat_many :
    {X Y : Type 0} (f : X → List Y) (n : ℕ) (xs : List X) → ((j : ℕ) (x : X) → slice_get xs j ≡ Some x → length (f x) ≡ n) → length (flat_map f xs) ≡ length xs * n
flat_many f n [] many = omega arith
flat_many f n (x ∷ xs) many =
    let rest = flat_many f n xs (λ j v there. many (suc j) v there) in
    let e = suc-mul (length xs) n in
    omega (arith, length-append (f x) (flat_map f xs), many 0 x refl, rest, e)

-- the elements of an index are those of so many workers
module _ {X : Type 0} (n count index : ℕ) (xs : List X) (less : index < n) (all : length xs ≡ count * n) where
  pub column_is : (k : ℕ) → slice_get (column index n xs) k ≡ slice_get xs (k * n + index)
  column_is k = every_at (n - 1) index xs k ∙ ap (λ m. slice_get xs (k * m + index)) (let e : suc (n - 1) ≡ n = omega (arith, less) in e)

  -- the worker of a place
  worker_below : (k : ℕ) → k * n + index < count * n → k < count
  worker_below k within = elim (cases_lt k count) [
    | inl below ↦ below
    | inr past ↦ let more = mul-le count n k n past (omega arith) in absurd (omega (arith, within, more))
  ]

  pub column_there : (k : ℕ) (x : X) → slice_get (column index n xs) k ≡ Some x → k < count
  column_there k x at =
      let within = slice_get_within xs (k * n + index) x (sym (column_is k) ∙ at) in
      worker_below k (omega (arith, within, all))

  column_at : (k : ℕ) → k < count → (x : X) × (slice_get (column index n xs) k ≡ Some x)
  column_at k few =
      let last = mul-le (suc k) n count n (omega (arith, few)) (omega arith) in
      let e = suc-mul k n in
      let it = there_is xs (k * n + index) (omega (arith, last, e, less, all)) in
      (it.0, column_is k ∙ it.1)

  pub column_many : length (column index n xs) ≡ count
  column_many = elim (cases_lt (length (column index n xs)) count) [
    | inl few ↦
        let it = column_at (length (column index n xs)) few in
        let within = slice_get_within (column index n xs) (length (column index n xs)) it.0 it.1 in
        absurd (omega (arith, within))
    | inr enough ↦ elim (cases_lt count (length (column index n xs))) [
      | inl more ↦
          let it = there_is (column index n xs) count more in
          let within = column_there count it.0 it.1 in
          absurd (omega (arith, within))
      | inr not_more ↦ omega (arith, enough, not_more)
    ]
  ]

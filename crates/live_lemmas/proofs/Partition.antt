-- What is made of a list in parts, one for each of so many numbers, is made of the whole.
use Rattle.std.proofs.Common.{◌≡◌, ℕ, zero, suc, ◌+◌, ◌<◌, ◌≤◌, ◌==◌, Bool, true, false, cond, List, [], ◌∷◌, ◌++◌, length, take, filter, Some, refl, sym}
use Rattle.std.proofs.Common.{ap, ◌∙◌, subst, inl, inr, arith}
use Rattle.std.specs.Prelude.{◌||◌, ◌&&◌, nat_lt, flat_map, IsPermutation}
use Rattle.std.specs.List.{All, slice_get}
use Rattle.std.proofs.lemmas.Bool.{cases_lt, lt-ltb, le-ltb, eq-eqb, ne_eqb}
use Rattle.std.proofs.lemmas.List.{append_assoc, append-nil, take_more}
use Rattle.std.proofs.lemmas.List.Concat.{flat_map-append}
use Rattle.std.proofs.lemmas.List.Elements.{All-head, All-tail}
use Rattle.std.proofs.lemmas.List.Sorted.{IsPermutation-refl, IsPermutation-trans, IsPermutation-append_left, IsPermutation-append_right}
use Rattle.std.proofs.lemmas.List.Sorted.{IsPermutation-append_comm}
use Rattle.std.proofs.lemmas.Option.{get_or_from_slice_get}
use Rattle.page_workers.proofs.Places.{there_is}

-- a part that comes behind others may come before them
moved_up : {Y : Type 0} (a b c ys : List Y) → IsPermutation (a ++ b) c → IsPermutation (a ++ (ys ++ b)) (ys ++ c)
moved_up a b c ys whole =
    subst (λ (l : List _). IsPermutation l (ys ++ c)) (append_assoc a ys b)
    (IsPermutation-trans _ _ _ (IsPermutation-append_left b (a ++ ys) (ys ++ a) (IsPermutation-append_comm a ys))
    (subst (λ (l : List _). IsPermutation l (ys ++ c)) (sym (append_assoc ys a b)) (IsPermutation-append_right ys (a ++ b) c whole)))

-- a part that comes first stays there
stays_up : {Y : Type 0} (a b c ys : List Y) → IsPermutation (a ++ b) c → IsPermutation ((ys ++ a) ++ b) (ys ++ c)
stays_up a b c ys whole = subst (λ (l : List _). IsPermutation l (ys ++ c)) (sym (append_assoc ys a b)) (IsPermutation-append_right ys (a ++ b) c whole)

module _ {X Y : Type 0} (f : X → List Y) where
  -- one element more, of one of two parts or of neither
  one_more :
      (a b : Bool) (x : X) (us vs ws : List X) → (a && b) ≡ false → IsPermutation (flat_map f us ++ flat_map f vs) (flat_map f ws)
      → IsPermutation (flat_map f (cond a (x ∷ us) us) ++ flat_map f (cond b (x ∷ vs) vs)) (flat_map f (cond (a || b) (x ∷ ws) ws))
  one_more true true x us vs ws apart whole = absurd (cc)
  one_more true false x us vs ws apart whole = stays_up (flat_map f us) (flat_map f vs) (flat_map f ws) (f x) whole
  one_more false true x us vs ws apart whole = moved_up (flat_map f us) (flat_map f vs) (flat_map f ws) (f x) whole
  one_more false false x us vs ws apart whole = whole

  -- what passes one of two tests, of which none passes both
  two_parts :
      (p q r : X → Bool) → ((x : X) → (p x && q x) ≡ false) → ((x : X) → r x ≡ (p x || q x)) → (xs : List X)
      → IsPermutation (flat_map f (filter p xs) ++ flat_map f (filter q xs)) (flat_map f (filter r xs))
  two_parts p q r apart either [] = IsPermutation-refl []
  two_parts p q r apart either (x ∷ xs) =
      subst (λ (t : Bool). IsPermutation (flat_map f (filter p (x ∷ xs)) ++ flat_map f (filter q (x ∷ xs)))
      (flat_map f (cond t (x ∷ filter r xs) (filter r xs))))
      (sym (either x))
      (one_more (p x) (q x) x (filter p xs) (filter q xs) (filter r xs) (apart x) (two_parts p q r apart either xs))

-- a number below the next is below this one, or it
below_apart : (n k : ℕ) → (nat_lt n k && (n == k)) ≡ false
below_apart n k = elim (cases_lt n k) [
  | inl less ↦ rw (lt-ltb n k less) (ne_eqb n k (λ same. omega (arith, less, same)))
  | inr not_less ↦ rw (le-ltb n k not_less) refl
]

below_next : (n k : ℕ) → nat_lt n (k + 1) ≡ (nat_lt n k || (n == k))
below_next n k = elim (cases_lt n k) [
  | inl less ↦ rw (lt-ltb n k less) (lt-ltb n (k + 1) (omega (arith, less)))
  | inr not_less ↦ elim (cases_lt k n) [
    | inl more ↦ rw (le-ltb n k not_less, ne_eqb n k (λ same. omega (arith, more, same))) (le-ltb n (k + 1) (omega (arith, more)))
    | inr same ↦ rw (le-ltb n k not_less, eq-eqb n k (omega (arith, not_less, same))) (lt-ltb n (k + 1) (omega (arith, same)))
  ]
]

-- what each passes keeps all
all_below : {X : Type 0} (number : X → ℕ) (count : ℕ) (xs : List X) → All (λ x. number x < count) xs → filter (λ x. nat_lt (number x) count) xs ≡ xs
all_below number count [] all = refl
all_below number count (x ∷ xs) all =
    rw (lt-ltb (number x) count (All-head (λ y. number y < count) x xs all))
    (ap (λ ys. x ∷ ys) (all_below number count xs (All-tail (λ y. number y < count) x xs all)))

none_below : {X : Type 0} (number : X → ℕ) (xs : List X) → filter (λ x. nat_lt (number x) 0) xs ≡ []
none_below number [] = refl
none_below number (x ∷ xs) = rw (le-ltb (number x) 0 (omega arith)) (none_below number xs)

module _ {W X Y : Type 0} (held : W → List Y) (number : X → ℕ) (f : X → List Y) (xs : List X) (all : List W) where
  -- so many hold what is made of the elements with their numbers, in any order
  abbrev pub HoldParts : ℕ → Type 0
  HoldParts count = (k : ℕ) (w : W) → k < count → slice_get all k ≡ Some w → IsPermutation (held w) (flat_map f (filter (λ x. number x == k) xs))

  first_parts :
      (count : ℕ) → count ≤ length all → HoldParts count
      → IsPermutation (flat_map held (take count all)) (flat_map f (filter (λ x. nat_lt (number x) count) xs))
  first_parts zero within hold = subst (λ (l : List X). IsPermutation [] (flat_map f l)) (sym (none_below number xs)) (IsPermutation-refl [])
  first_parts (suc k) within hold =
      let it = there_is all k (omega (arith, within)) in
      let next : suc k ≡ k + 1 = omega arith in
      let own : IsPermutation (held it.0) (flat_map f (filter (λ x. number x == k) xs)) = hold k it.0 (omega arith) it.1 in
      let last : take (suc k) all ≡ take k all ++ it.0 ∷ [] =
      ap (λ n. take n all) next ∙ take_more all k it.0 (omega (arith, within)) ∙ ap (λ w. take k all ++ w ∷ []) (get_or_from_slice_get all k it.0 it.0 it.1) in
      let made : flat_map held (take (suc k) all) ≡ flat_map held (take k all) ++ held it.0 =
      ap (flat_map held) last ∙ flat_map-append held (take k all) (it.0 ∷ [])
      ∙ ap (λ ys. flat_map held (take k all) ++ ys) (append-nil (held it.0)) in
      let both = two_parts f (λ x. nat_lt (number x) k) (λ x. number x == k) (λ x. nat_lt (number x) (suc k)) (λ x. below_apart (number x) k)
      (λ x. ap (nat_lt (number x)) next ∙ below_next (number x) k) xs in
      subst (λ (l : List Y). IsPermutation l (flat_map f (filter (λ x. nat_lt (number x) (suc k)) xs))) (sym made)
      (IsPermutation-trans _ _ _ (IsPermutation-append_right (flat_map held (take k all)) (held it.0) (flat_map f (filter (λ x. number x == k) xs)) own)
      (IsPermutation-trans _ _ _
      (IsPermutation-append_left (flat_map f (filter (λ x. number x == k) xs)) (flat_map held (take k all)) (flat_map f (filter (λ x. nat_lt (number x) k) xs))
      (first_parts k (omega (arith, within)) (λ n w less. hold n w (omega (arith, less)))))
      both))

  -- where each element has one of these numbers, together they hold what is made of all
  pub parts_together :
      (count : ℕ) → count ≤ length all → All (λ x. number x < count) xs → HoldParts count
      → IsPermutation (flat_map held (take count all)) (flat_map f xs)
  parts_together count within numbered hold =
      subst (λ (l : List X). IsPermutation (flat_map held (take count all)) (flat_map f l)) (all_below number count xs numbered) (first_parts count within hold)

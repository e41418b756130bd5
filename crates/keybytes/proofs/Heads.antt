-- Lists of bytes compare by the number that their first bytes make.
use Rattle.std.proofs.Common.{◌≡◌, ℕ, zero, suc, ◌+◌, ◌*◌, ◌^◌, ◌<◌, ◌≤◌, List, [], ◌∷◌, length, drop, Ordering, Less, Equal, Greater, nat_cmp, refl, ap, ◌∙◌, arith, pow-suc, lit<}
use Rattle.std.specs.Ordering.{MatchOrdering, ordering_then}
use Rattle.std.specs.Cmp.Lexicographic.{slice_cmp}
use Rattle.std.proofs.lemmas.Cmp.{ranked}
use Rattle.std.proofs.lemmas.Nat.{mul-add-lt}
use Rattle.byteorder.specs.Endian.{big_number}
use Rattle.byteorder.specs.Numbers.{big_from-cons}
use Rattle.keybytes.specs.Heads.{AreBytes}
use Rattle.keybytes.proofs.KeyOrder.{ordering_then-assoc, nat_cmp-digits}

bytes-tail : (x : ℕ) (xs : List ℕ) → AreBytes (x ∷ xs) → AreBytes xs
bytes-tail x xs bytes place = bytes (suc place)

number-cons : (n x : ℕ) (xs : List ℕ) → big_number (suc n) (x ∷ xs) ≡ x * 256 ^ n + big_number n xs
number-cons n x xs = ap (λ (r : ℕ). x * 256 ^ n + r) (big_from-cons 0 n x xs)

number-below : (n : ℕ) (xs : List ℕ) → n ≤ length xs → AreBytes xs → big_number n xs < 256 ^ n
number-below zero xs within bytes = lit< tt
number-below (suc n) [] within bytes = omega (arith, within)
number-below (suc n) (x ∷ xs) within bytes =
    let below = number-below n xs (omega (arith, within)) (bytes-tail x xs bytes) in
    rw (number-cons n x xs) (rw (pow-suc 256 n) (mul-add-lt x (256 ^ n) (big_number n xs) 256 (bytes 0) below))

-- by the number of the first n bytes, then by those behind them
pub slice_cmp-number : (n : ℕ) (xs ys : List ℕ) → n ≤ length xs → n ≤ length ys → AreBytes xs → AreBytes ys
    → slice_cmp nat_cmp xs ys ≡ ordering_then (nat_cmp (big_number n xs) (big_number n ys)) (slice_cmp nat_cmp (drop n xs) (drop n ys))
slice_cmp-number zero xs ys long other_long bytes other_bytes = refl
slice_cmp-number (suc n) [] ys long other_long bytes other_bytes = absurd (omega (arith, long))
slice_cmp-number (suc n) (x ∷ xs) [] long other_long bytes other_bytes = absurd (omega (arith, other_long))
slice_cmp-number (suc n) (x ∷ xs) (y ∷ ys) long other_long bytes other_bytes =
    let here : n ≤ length xs = omega (arith, long) in
    let there : n ≤ length ys = omega (arith, other_long) in
    let rest = slice_cmp-number n xs ys here there (bytes-tail x xs bytes) (bytes-tail y ys other_bytes) in
    let digits = nat_cmp-digits (256 ^ n) x y (big_number n xs) (big_number n ys) (number-below n xs here (bytes-tail x xs bytes))
    (number-below n ys there (bytes-tail y ys other_bytes)) in
    rw (number-cons n x xs, number-cons n y ys, digits, rest) (ordering_then-assoc (nat_cmp x y) (nat_cmp (big_number n xs) (big_number n ys)) _)

apart_decide : (m n : ℕ) (first rest : Ordering) → MatchOrdering first (m < n) (m ≡ n) (n < m) → (m ≡ n → ⊥) → ordering_then first rest ≡ first
apart_decide m n Less rest is apart = refl
apart_decide m n Equal rest is apart = absurd (apart is)
apart_decide m n Greater rest is apart = refl

same_tie : (m n : ℕ) (first rest : Ordering) → MatchOrdering first (m < n) (m ≡ n) (n < m) → m ≡ n → ordering_then first rest ≡ rest
same_tie m n Less rest is same = absurd (omega (arith, is, same))
same_tie m n Equal rest is same = refl
same_tie m n Greater rest is same = absurd (omega (arith, is, same))

-- numbers of the first n bytes that are apart decide
pub numbers_decide : (n : ℕ) (xs ys : List ℕ) → n ≤ length xs → n ≤ length ys → AreBytes xs → AreBytes ys
    → (big_number n xs ≡ big_number n ys → ⊥) → slice_cmp nat_cmp xs ys ≡ nat_cmp (big_number n xs) (big_number n ys)
numbers_decide n xs ys long other_long bytes other_bytes apart =
    slice_cmp-number n xs ys long other_long bytes other_bytes
    ∙ apart_decide (big_number n xs) (big_number n ys) _ _ (ranked (big_number n xs) (big_number n ys) _ refl) apart

-- where they are the same, what stands behind them decides
pub numbers_tie : (n : ℕ) (xs ys : List ℕ) → n ≤ length xs → n ≤ length ys → AreBytes xs → AreBytes ys
    → big_number n xs ≡ big_number n ys → slice_cmp nat_cmp xs ys ≡ slice_cmp nat_cmp (drop n xs) (drop n ys)
numbers_tie n xs ys long other_long bytes other_bytes same =
    slice_cmp-number n xs ys long other_long bytes other_bytes
    ∙ same_tie (big_number n xs) (big_number n ys) _ _ (ranked (big_number n xs) (big_number n ys) _ refl) same

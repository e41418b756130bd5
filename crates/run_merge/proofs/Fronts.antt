-- Heads are in the order of the numbers at their fronts.
use Rattle.std.proofs.Common.{◌≡◌, ℕ, ◌<◌, List, Ordering, Less, Equal, Greater, nat_cmp, false, refl, ap, ◌∙◌, arith}
use Rattle.std.specs.Prelude.{Option, Some, None}
use Rattle.std.specs.Ordering.{MatchOrdering, ordering_then, is_lt}
use Rattle.std.specs.Cmp.Lexicographic.{slice_cmp}
use Rattle.std.proofs.lemmas.Cmp.{ranked}
use Rattle.byteorder.specs.Endian.{big_number}
use Rattle.keybytes.proofs.Heads.{numbers_decide}
use Rattle.keybytes.specs.Rids.{rid_cmp}
use Rattle.keybytes.specs.declared.pair.Pair.{Pair}
use Rattle.run_merge.specs.Fronts.{IsNumber, HasFront}
use Rattle.run_merge.specs.Leading.{is_ahead, compares_of}

is_greater : (m n : ℕ) (o : Ordering) → MatchOrdering o (m < n) (m ≡ n) (n < m) → n < m → o ≡ Greater
is_greater m n Less is above = absurd (omega (arith, is, above))
is_greater m n Equal is above = absurd (omega (arith, is, above))
is_greater m n Greater is above = refl

-- the keys are in the order of their numbers
keys_follow : (xs ys : List ℕ) (m n : ℕ) → IsNumber xs m → IsNumber ys n → n < m → slice_cmp nat_cmp xs ys ≡ Greater
keys_follow xs ys m n p q above =
    let over : big_number 8 ys < big_number 8 xs = omega (arith, p.is, q.is, above) in
    let apart : big_number 8 xs ≡ big_number 8 ys → ⊥ = λ same. omega (arith, same, over) in
    numbers_decide 8 xs ys p.long q.long p.are_bytes q.are_bytes apart
    ∙ is_greater (big_number 8 xs) (big_number 8 ys) _ (ranked (big_number 8 xs) (big_number 8 ys) _ refl) over

-- a head with a greater number is not ahead
pub fronts_lead : (head other : Option Pair) (m n : ℕ) → HasFront head m → HasFront other n → n < m → is_ahead head other ≡ false
fronts_lead None other m n p q above = refl
fronts_lead (Some pair) None m n p q above = absurd q
fronts_lead (Some pair) (Some other) m n p q above =
    ap (λ (o : Ordering). is_lt (ordering_then o (rid_cmp pair.rid other.rid))) (keys_follow pair.key other.key m n p q above)

-- two heads with numbers are compared
pub fronts_compare : (head other : Option Pair) (m n : ℕ) → HasFront head m → HasFront other n → 1 ≡ compares_of head other
fronts_compare None other m n p q = absurd p
fronts_compare (Some pair) None m n p q = absurd q
fronts_compare (Some pair) (Some other) m n p q = refl

-- Keys compare by the numbers that begin them.
use Rattle.std.proofs.Common.{◌≡◌, ℕ, ◌<◌, ◌+◌, ◌≤◌, true, not, List, length, get_or, ap, ◌∙◌, arith, nat_cmp, Less}
use Rattle.std.proofs.lemmas.Bool.Decides.{nat_tests}
use Rattle.std.specs.Ordering.{is_lt, ordering_then}
use Rattle.std.specs.Cmp.Lexicographic.{slice_cmp}
use Rattle.byteorder.specs.Endian.{big_number}
use Rattle.keybytes.specs.Rids.{rid_cmp}
use Rattle.keybytes.specs.declared.pair.Pair.{Pair}
use Rattle.keybytes.proofs.Heads.{numbers_decide}
use Rattle.tree_nodes.specs.Heads.{AreBefore, AreBehind, BeginsWith, IsHead}
use Rattle.tree_nodes.specs.Order.{is_before, PairsRise}
use Rattle.tree_nodes.proofs.Counts.{below_more, not_above_end}
use Rattle.tree_nodes.proofs.Fronts.{front_count-le-length}

lesser : (m n : ℕ) → m < n → nat_cmp m n ≡ Less
lesser m n less = grind (arith, nat_tests)

-- of two pairs whose keys begin with numbers, that with the lesser number comes first
begins_before : (p q : Pair) (m n : ℕ) → BeginsWith p.key m → BeginsWith q.key n → m < n → is_before p q ≡ true
unfolding is_before
begins_before p q m n head other less =
    let apart : big_number 8 p.key ≡ big_number 8 q.key → ⊥ = λ same. omega (arith, same, head.is, other.is, less) in
    let below : big_number 8 p.key < big_number 8 q.key = omega (arith, head.is, other.is, less) in
    let by_number : slice_cmp nat_cmp p.key q.key ≡ Less =
    numbers_decide 8 p.key q.key head.long other.long head.bytes other.bytes apart ∙ lesser (big_number 8 p.key) (big_number 8 q.key) below in
    ap (λ o. is_lt (ordering_then o (rid_cmp p.rid q.rid))) by_number

-- so does one whose head is less
head_before : (p q : Pair) (m n : ℕ) → IsHead p.key m → IsHead q.key n → m < n → n < 18446744073709551615 → is_before p q ≡ true
head_before p q m n head other less tells = begins_before p q m n (head.tells (omega (arith, less, tells))) (other.tells tells) less

-- all pairs up to one whose head is less stand before the key
pub lesser_more : (pairs : List Pair) (q : Pair) (key : List ℕ) (at m n : ℕ) → PairsRise pairs → at < length pairs → q ≡ get_or pairs at q → IsHead q.key m → IsHead key n → m < n → n < 18446744073709551615 → AreBefore (at + 1) key pairs
lesser_more pairs q key at m n rise within is head other less tells = record {
  each = λ rid. below_more pairs (record { key = key; rid = rid }) q at rise within is (head_before q (record { key = key; rid = rid }) m n head other less tells);
}

-- all pairs from one on whose head is greater stand behind the key
pub greater_end : (pairs : List Pair) (q : Pair) (key : List ℕ) (at m n : ℕ) → at < length pairs → q ≡ get_or pairs at q → IsHead q.key m → IsHead key n → n < m → m < 18446744073709551615 → AreBehind at key pairs
greater_end pairs q key at m n within is head other less tells = record {
  each = λ rid. not_above_end pairs (record { key = key; rid = rid }) q at within is (head_before (record { key = key; rid = rid }) q n m other head less tells);
}

pub none_lesser : (key : List ℕ) (pairs : List Pair) → AreBefore 0 key pairs
none_lesser key pairs = record { each = λ rid. omega arith }

pub all_behind : (key : List ℕ) (pairs : List Pair) (n : ℕ) → length pairs ≤ n → AreBehind n key pairs
all_behind key pairs n long = record {
  each = λ rid.
      let all = front_count-le-length (λ pair. not (is_before (record { key = key; rid = rid }) pair)) pairs in
      omega (arith, all, long);
}

-- Each page of a table that is cut into ranges lies in one of them, and in no other.
use Rattle.std.proofs.Common.{◌≡◌, ℕ, zero, suc, ◌-◌, ◌<◌, ◌≤◌, Bool, true, false, leb, List, length, get_or, refl, sym, ◌∙◌, ap, arith, Some}
use Rattle.std.proofs.lemmas.Bool.{and_parts, leb-true, leb-false, ltb-true, ltb-false, lt-ltb, le-ltb}
use Rattle.std.proofs.lemmas.List.Quantifiers.{position-Some}
use Rattle.std.proofs.lemmas.List.Sums.{position_or_len_is, fails_before_first}
use Rattle.std.proofs.lemmas.List.Sorted.{IsNonDecreasingBy-from_default}
use Rattle.std.specs.List.Sorted.{IsNonDecreasingBy, IsPartitionPoint}
use Rattle.std.specs.Prelude.{nat_lt, nat_le, ◌&&◌}
use Rattle.std.specs.List.{position_or_len}
use Rattle.scan_range.specs.Cuts.{range_start, range_of, end_at, are_cuts, ranges_most, LiesIn, AreCovered}
use Rattle.scan_range.proofs.Ends.{ends_rise, ends_below, last_end}

pub cuts_end_at : (pages : ℕ) (ends : List ℕ) → are_cuts pages ends ≡ true → end_at 0 pages ends ≡ true
cuts_end_at pages ends h = (and_parts _ (end_at 0 pages ends) h).1

pub cuts_any : (pages : ℕ) (ends : List ℕ) → are_cuts pages ends ≡ true → 0 < length ends
cuts_any pages ends h =
    let small = and_parts (nat_lt 0 (length ends) && nat_le (length ends) ranges_most) (end_at 0 pages ends) h in
    ltb-true _ _ (and_parts (nat_lt 0 (length ends)) (nat_le (length ends) ranges_most) small.0).0

-- a range that begins at or below a page and ends behind it is the first that ends behind it
pub LiesIn-position : (ends : List ℕ) (page range pages : ℕ) → end_at 0 pages ends ≡ true → LiesIn ends page range
    → position_or_len (nat_lt page) ends ≡ range
LiesIn-position ends page zero pages h l =
    position_or_len_is (nat_lt page) ends zero 0 (omega arith) (λ k b. absurd (omega arith)) (λ b. lt-ltb page _ l.high)
LiesIn-position ends page (suc range) pages h l =
    position_or_len_is (nat_lt page) ends (suc range) 0 (omega (arith, l.there))
    (λ k b. le-ltb page _ (omega (arith, l.low, ends_rise 0 pages ends k range h (omega arith) (omega (arith, l.there)))))
    (λ b. lt-ltb page _ l.high)

-- the first range that ends behind a page begins at or below it
starts_below : (ends : List ℕ) (page range : ℕ) → ((k : ℕ) → k < range → nat_lt page (get_or ends k 0) ≡ false) → range_start ends range ≤ page
starts_below ends page zero h = omega arith
starts_below ends page (suc range) h = ltb-false page _ (h range (omega arith))

pub range_of-lies : (ends : List ℕ) (page range : ℕ) → range_of ends page ≡ Some range → LiesIn ends page range
range_of-lies ends page range e =
    let at = position-Some (nat_lt page) ends range 0 e in
    record { there = at.0; low = starts_below ends page range at.2; high = ltb-true _ _ at.1 }

-- what the first end behind the page is, where there is one
position-first : (ends : List ℕ) (page range : ℕ) → position_or_len (nat_lt page) ends ≡ range → range < length ends
    → range_of ends page ≡ Some range
position-first ends page range e l = rw e (rw (lt-ltb range (length ends) l))

pub lies-range_of : (pages : ℕ) (ends : List ℕ) (page range : ℕ) → are_cuts pages ends ≡ true → LiesIn ends page range
    → range_of ends page ≡ Some range
lies-range_of pages ends page range h l =
    position-first ends page range (LiesIn-position ends page range pages (cuts_end_at pages ends h) l) l.there

-- a page of the table has an end behind it: whether one is found is asked, and it is
found_as : (pages : ℕ) (ends : List ℕ) (page : ℕ) (is_found : Bool) → are_cuts pages ends ≡ true → page < pages
    → nat_lt (position_or_len (nat_lt page) ends) (length ends) ≡ is_found → is_found ≡ true
found_as pages ends page true h l e = refl
found_as pages ends page false h l e =
    let none = ltb-false _ _ e in
    let any = cuts_any pages ends h in
    let last = last_end 0 pages ends (length ends - 1) (cuts_end_at pages ends h) (omega arith) in
    absurd (omega (arith, ltb-false page _ (fails_before_first (nat_lt page) ends (length ends - 1) 0 (omega arith))))

found : (pages : ℕ) (ends : List ℕ) (page : ℕ) → are_cuts pages ends ≡ true → page < pages
    → position_or_len (nat_lt page) ends < length ends
found pages ends page h l = ltb-true _ _ (found_as pages ends page _ h l refl)

pub range_of-found : (pages : ℕ) (ends : List ℕ) (page : ℕ) → are_cuts pages ends ≡ true → page < pages
    → range_of ends page ≡ Some (position_or_len (nat_lt page) ends)
range_of-found pages ends page h l = position-first ends page _ refl (found pages ends page h l)

pub cuts_cover : (pages : ℕ) (ends : List ℕ) → are_cuts pages ends ≡ true → AreCovered pages ends
cuts_cover pages ends h = record {
  by_one = λ page l. (_, range_of-lies ends page _ (range_of-found pages ends page h l));
  by_no_other = λ page a b at_a at_b.
      let ordered = cuts_end_at pages ends h in
      sym (LiesIn-position ends page a pages ordered at_a) ∙ LiesIn-position ends page b pages ordered at_b;
  inside = λ page range at. omega (arith, at.high, ends_below 0 pages ends range (cuts_end_at pages ends h) at.there);
}

-- ends never go down
pub cuts_rise : (pages : ℕ) (ends read : List ℕ) → are_cuts pages ends ≡ true → read ≡ ends → IsNonDecreasingBy (λ (end : ℕ). end) read
cuts_rise pages ends read h same =
    rw same
    (IsNonDecreasingBy-from_default (λ (end : ℕ). end) ends 0 (λ i j le l. ends_rise 0 pages ends i j (cuts_end_at pages ends h) le l))

-- what a binary search for the first end behind a page gives
pub range_of-search : (pages : ℕ) (ends read : List ℕ) (page point : ℕ) → are_cuts pages ends ≡ true → read ≡ ends → page < pages
    → point ≤ length read → IsPartitionPoint (λ end. leb end page ≡ true) (λ end. leb end page ≡ false) read point
    → range_of ends page ≡ Some point
range_of-search pages ends read page point h same l within parts =
    let all = ap (λ (list : List ℕ). length list) same in
    let parted = rw same at parts in
    range_of-found pages ends page h l
    ∙ ap Some (position_or_len_is (nat_lt page) ends point 0 (omega arith)
    (λ k b. le-ltb page _ (leb-true _ _ (parted.0 k 0 (omega arith) b)))
    (λ b. lt-ltb page _ (leb-false _ _ (parted.1 point 0 (omega arith) b))))

-- Which pages are passed: none at the start, by each `advance` the page that came next, and all once all ranges are done.
use Rattle.std.proofs.Common.{◌≡◌, ◌≢◌, ℕ, ◌+◌, ◌<◌, Bool, true, false, List, length, get_or, set, refl, sym, ap, arith, Option, Some, None}
use Rattle.std.proofs.lemmas.Bool.{leb-true, leb-false, lt-ltb, le-ltb, ne_eqb, eqb-true, eqb-false}
use Rattle.std.proofs.lemmas.Bool.Decides.{nat_tests}
use Rattle.std.proofs.lemmas.List.{get_or-set_same, get_or-set_other}
use Rattle.std.proofs.lemmas.List.FromFn.{length-range_with_len, get_or-range_with_len}
use Rattle.std.proofs.lemmas.List.Sums.{AllPass-from_list_all}
use Rattle.std.specs.Prelude.{nat_lt, nat_eq, ◌||◌, ◌==◌}
use Rattle.std.specs.List.{range_with_len}
use Rattle.scan_range.specs.Cuts.{CutsValue, range_of, range_end, LiesIn}
use Rattle.scan_range.specs.Ranges.{RangesValue, AreRanges, at_start, after_advance, next_of, is_done, are_done, is_past, is_passed}
use Rattle.scan_range.proofs.Covered.{cuts_cover, range_of-lies, lies-range_of, range_of-found}
use Rattle.scan_range.proofs.Going.{next_at_start}

-- the page that comes next in a range that isn't done lies in that range
pub next-lies : (ranges : RangesValue) (range : ℕ) → AreRanges ranges → range < length ranges.ends → is_done ranges range ≡ false
    → LiesIn ranges.ends (next_of ranges range) range
next-lies ranges range r l open_yet = record {
  there = l;
  low = r.low range l;
  high = leb-false (range_end ranges.ends range) (next_of ranges range) open_yet;
}

-- and so it is one of the table's
pub next-below : (ranges : RangesValue) (range : ℕ) → AreRanges ranges → range < length ranges.ends → is_done ranges range ≡ false
    → next_of ranges range < ranges.pages
next-below ranges range r l open_yet =
    (cuts_cover ranges.pages ranges.ends r.cuts).inside (next_of ranges range) range (next-lies ranges range r l open_yet)

-- only pages of the table are passed
passed-below_as : (ranges : RangesValue) (page : ℕ) (of : Option ℕ) → AreRanges ranges → range_of ranges.ends page ≡ of
    → is_past ranges of page ≡ true → page < ranges.pages
passed-below_as ranges page None r e passed = absurd (cc)
passed-below_as ranges page (Some range) r e passed =
    (cuts_cover ranges.pages ranges.ends r.cuts).inside page range (range_of-lies ranges.ends page range e)

pub passed-below : (ranges : RangesValue) (page : ℕ) → AreRanges ranges → is_passed ranges page ≡ true → page < ranges.pages
passed-below ranges page r passed = passed-below_as ranges page (range_of ranges.ends page) r refl passed

-- at the start no page is passed
start_as : (cuts : CutsValue) (page : ℕ) (of : Option ℕ) → range_of cuts.ends page ≡ of → is_past (at_start cuts) of page ≡ false
start_as cuts page None e = refl
start_as cuts page (Some range) e =
    let at = range_of-lies cuts.ends page range e in
    le-ltb page _ (omega (arith, at.low, next_at_start cuts range at.there))

pub none_passed-at_start : (cuts : CutsValue) (page : ℕ) → is_passed (at_start cuts) page ≡ false
none_passed-at_start cuts page = start_as cuts page (range_of cuts.ends page) refl

-- one page more below the next one
below_more : (page next : ℕ) → nat_lt page (next + 1) ≡ (nat_lt page next || page == next)
below_more page next = grind (arith, nat_tests)

or_false : (passed other : Bool) → other ≡ false → passed ≡ (passed || other)
or_false true other e = refl
or_false false other e = sym e

-- the range that the page lies in is the one that goes on, or it isn't
past_as : (next : List ℕ) (range at page : ℕ) (here : Bool) → range < length next → nat_eq at range ≡ here
    → (page ≡ get_or next range 0 → at ≡ range)
    → nat_lt page (get_or (set next range (get_or next range 0 + 1)) at 0) ≡ (nat_lt page (get_or next at 0) || page == get_or next range 0)
past_as next range at page true l e only =
    let same : at ≡ range = eqb-true at range e in
    rw same (rw get_or-set_same (below_more page (get_or next range 0)))
past_as next range at page false l e only =
    let apart : at ≢ range = eqb-false at range e in
    let other : page ≢ get_or next range 0 = λ is. apart (only is) in
    rw get_or-set_other (or_false _ _ (ne_eqb page (get_or next range 0) other))

after_as : (ranges : RangesValue) (range page : ℕ) (of : Option ℕ) → AreRanges ranges → range < length ranges.ends
    → is_done ranges range ≡ false → range_of ranges.ends page ≡ of
    → is_past (after_advance ranges range) of page ≡ (is_past ranges of page || page == next_of ranges range)
after_as ranges range page None r l open_yet e =
    let at = lies-range_of ranges.pages ranges.ends (next_of ranges range) range r.cuts (next-lies ranges range r l open_yet) in
    let other : page ≢ next_of ranges range = λ is. let same = ap (range_of ranges.ends) is in cc in
    sym (ne_eqb page (next_of ranges range) other)
after_as ranges range page (Some at) r l open_yet e =
    let here = lies-range_of ranges.pages ranges.ends (next_of ranges range) range r.cuts (next-lies ranges range r l open_yet) in
    past_as ranges.next range at page _ (omega (arith, r.each)) refl (λ is. let same = ap (range_of ranges.ends) is in cc)

-- an `advance` passes the page that came next, and no other
pub passed-after_advance : (ranges : RangesValue) (range page : ℕ) → AreRanges ranges → range < length ranges.ends
    → is_done ranges range ≡ false
    → is_passed (after_advance ranges range) page ≡ (is_passed ranges page || page == next_of ranges range)
passed-after_advance ranges range page r l open_yet = after_as ranges range page (range_of ranges.ends page) r l open_yet refl

-- which wasn't passed before
pub next-not_passed : (ranges : RangesValue) (range : ℕ) → AreRanges ranges → range < length ranges.ends → is_done ranges range ≡ false
    → is_passed ranges (next_of ranges range) ≡ false
next-not_passed ranges range r l open_yet =
    let at = lies-range_of ranges.pages ranges.ends (next_of ranges range) range r.cuts (next-lies ranges range r l open_yet) in
    rw at (le-ltb (next_of ranges range) (next_of ranges range) (omega arith))

-- once all ranges are done, each page of the table is passed
pub done-each : (ranges : RangesValue) (range : ℕ) → are_done ranges ≡ true → range < length ranges.ends → is_done ranges range ≡ true
done-each ranges range all l =
    let place : range < length (range_with_len 0 (length ranges.ends)) = omega (arith, length-range_with_len 0 (length ranges.ends)) in
    let at : get_or (range_with_len 0 (length ranges.ends)) range 0 ≡ range = omega (arith, get_or-range_with_len 0 (length ranges.ends) range 0 l) in
    rw at at (AllPass-from_list_all (is_done ranges) (range_with_len 0 (length ranges.ends)) all range 0 place)

pub all_passed-done : (ranges : RangesValue) (page : ℕ) → AreRanges ranges → are_done ranges ≡ true → page < ranges.pages
    → is_passed ranges page ≡ true
all_passed-done ranges page r all l =
    let found = range_of-found ranges.pages ranges.ends page r.cuts l in
    let at = range_of-lies ranges.ends page _ found in
    let done = done-each ranges _ all at.there in
    rw found (lt-ltb page _ (omega (arith, at.high, leb-true _ _ done)))

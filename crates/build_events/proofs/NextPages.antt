-- Which page of a range is copied next, and which range is open.
use Rattle.std.proofs.Common.{◌≡◌, ◌≢◌, ℕ, zero, suc, add-zero, zero-add, ◌+◌, ◌-◌, ◌<◌, ◌≤◌, Bool, true, false, List, [], ◌∷◌, ◌++◌, length, Option, Some}
use Rattle.std.proofs.Common.{None, refl, sym, ap, ◌∙◌, subst, inl, inr, arith}
use Rattle.std.specs.Prelude.{not, nat_lt, is_some, if◌then◌else◌}
use Rattle.std.specs.List.{range_with_len}
use Rattle.std.proofs.lemmas.Bool.{cases_Bool, cases_lt, cond-true, cond-false, lt-ltb, le-ltb, ne_eqb, leb-true, leb-false, false≢true, not-true, not-false}
use Rattle.std.proofs.lemmas.List.{get_or_past}
use Rattle.std.proofs.lemmas.Option.{same_Some}
use Rattle.scan_range.specs.Cuts.{range_start, range_end, range_pages, are_cuts, LiesIn}
use Rattle.scan_range.specs.Ranges.{RangesValue, AreRanges, next_of, is_done, is_past, is_passed}
use Rattle.scan_range.proofs.Covered.{cuts_cover, lies-range_of}
use Rattle.build_events.specs.CoreState.{BuildState}
use Rattle.build_events.specs.Ranges.{first_that, is_left, next_page, open_range}
use Rattle.build_events.specs.Scanning.{scanned_at}
use Rattle.build_events.specs.declared.scan.Scan.{Scan}
use Rattle.build_events.proofs.ScanSteps.{scanned_last}

-- the first number that passes stands behind those that don't
pub first_left :
    (test : ℕ → Bool) (first count n : ℕ) → ((k : ℕ) → k < n → test (first + k) ≡ false) → n < count → test (first + n) ≡ true
    → first_that test (range_with_len first count) ≡ Some (first + n)
first_left test first zero n fail less pass = absurd (omega arith)
first_left test first (suc count) zero fail less pass =
    cond-true (test first) (Some first) (first_that test (range_with_len (first + 1) count)) (ap test (sym (add-zero first)) ∙ pass) ∙ ap (λ n. Some n) (sym (add-zero first))
first_left test first (suc count) (suc n) fail less pass =
    let next : first + 1 + n ≡ first + suc n = omega arith in
    cond-false (test first) (Some first) (first_that test (range_with_len (first + 1) count)) (ap test (sym (add-zero first)) ∙ fail 0 (omega arith))
    ∙ first_left test (first + 1) count n (λ k low. let same : first + 1 + k ≡ first + suc k = omega arith in ap test same ∙ fail (suc k) (omega arith)) (omega arith) (ap test next ∙ pass)
    ∙ ap (λ n. Some n) next

pub none_left : (test : ℕ → Bool) (first count : ℕ) → ((k : ℕ) → k < count → test (first + k) ≡ false) → first_that test (range_with_len first count) ≡ None
none_left test first zero fail = refl
none_left test first (suc count) fail =
    cond-false (test first) (Some first) (first_that test (range_with_len (first + 1) count)) (ap test (sym (add-zero first)) ∙ fail 0 (omega arith))
    ∙ none_left test (first + 1) count (λ k low. let same : first + 1 + k ≡ first + suc k = omega arith in ap test same ∙ fail (suc k) (omega arith))

-- the first that passes is one of them
found : (test : ℕ → Bool) (first count n : ℕ) → first_that test (range_with_len first count) ≡ Some n → (first ≤ n) × (n < first + count) × (test n ≡ true)
found test first zero n is = absurd (cc)
found test first (suc count) n is =
    let rest : Option ℕ = first_that test (range_with_len (first + 1) count) in
    elim (cases_Bool (test first)) [
      | inl pass ↦
          let same : first ≡ n = same_Some first n (sym (cond-true (test first) (Some first) rest pass) ∙ is) in
          (omega arith, omega arith, sym (ap test same) ∙ pass)
      | inr fail ↦
          let later = found test (first + 1) count n (sym (cond-false (test first) (Some first) rest fail) ∙ is) in
          (omega (arith, later.0), omega (arith, later.1), later.2)
    ]

-- where none passes, each fails
all_fail : (test : ℕ → Bool) (first count : ℕ) → first_that test (range_with_len first count) ≡ None → (k : ℕ) → k < count → test (first + k) ≡ false
all_fail test first zero none k less = absurd (omega arith)
all_fail test first (suc count) none k less =
    let rest : Option ℕ = first_that test (range_with_len (first + 1) count) in
    elim (cases_Bool (test first)) [
      | inl pass ↦ absurd (let some : Some first ≡ None = sym (cond-true (test first) (Some first) rest pass) ∙ none in cc)
      | inr fail ↦ later fail (all_fail test (first + 1) count (sym (cond-false (test first) (Some first) rest fail) ∙ none)) k less
    ] where
      later : test first ≡ false → ((k : ℕ) → k < count → test (first + 1 + k) ≡ false) → (k : ℕ) → k < suc count → test (first + k) ≡ false
      later fail rest zero less = ap test (add-zero first) ∙ fail
      later fail rest (suc k) less = let same : first + suc k ≡ first + 1 + k = omega arith in ap test same ∙ rest k (omega arith)

-- they pass alike
first_alike :
    (test other : ℕ → Bool) (first count : ℕ) → ((n : ℕ) → first ≤ n → n < first + count → test n ≡ other n)
    → first_that test (range_with_len first count) ≡ first_that other (range_with_len first count)
first_alike test other first zero same = refl
first_alike test other first (suc count) same =
    let rest : Option ℕ = first_that other (range_with_len (first + 1) count) in
    ap (λ o. if test first then Some first else o) (first_alike test other (first + 1) count (λ n low high. same n (omega arith) (omega arith)))
    ∙ ap (λ t. if t then Some first else rest) (same first (omega arith) (omega arith))

pub not_some : (o : Option ℕ) → is_some o ≡ false → o ≡ None
not_some None e = refl
not_some (Some n) e = absurd (false≢true (sym e))

pub some_of : (o : Option ℕ) → is_some o ≡ true → (n : ℕ) × (o ≡ Some n)
some_of None e = absurd (false≢true e)
some_of (Some n) e = (n, refl)

-- a page from the start to the end of a range lies in it
lies_in : (ends : List ℕ) (page range : ℕ) → range_start ends range ≤ page → page < range_end ends range → LiesIn ends page range
lies_in ends page range low high = elim (cases_lt range (length ends)) [
  | inl there ↦ record { there = there; low = low; high = high }
  | inr past ↦ absurd (let none = get_or_past ends range 0 past in omega (arith, none, high))
]

-- the page that comes next

module _ (b : BuildState) (range page : ℕ) (next : next_page b range ≡ Some page) where
  it : (range_start b.ends range ≤ page) × (page < range_start b.ends range + (range_end b.ends range - range_start b.ends range)) × (is_left b page ≡ true)
  it = found (is_left b) (range_start b.ends range) (range_end b.ends range - range_start b.ends range) page next

  -- lies in the range
  pub next_lies : LiesIn b.ends page range
  next_lies = let at = it in lies_in b.ends page range at.0 (omega (arith, at.0, at.1))

  pub next_below : are_cuts b.pages b.ends ≡ true → page < b.pages
  next_below cuts = (cuts_cover b.pages b.ends cuts).inside page range next_lies

  -- and was not copied
  pub next_unscanned : scanned_at b.scans page ≡ None
  next_unscanned = not_some (scanned_at b.scans page) (not-true (is_some (scanned_at b.scans page)) it.2)

-- a page that is copied in one range leaves the others as they are
pub others_stay :
    (b : BuildState) (range other : ℕ) (last : Scan) → are_cuts b.pages b.ends ≡ true → next_page b range ≡ Some last.page → other ≢ range
    → next_page (record b { scans = b.scans ++ last ∷ [] }) other ≡ next_page b other
others_stay b range other last cuts next apart =
    let new : BuildState = record b { scans = b.scans ++ last ∷ [] } in
    first_alike (is_left new) (is_left b) (range_start b.ends other) (range_end b.ends other - range_start b.ends other) (λ page low high.
    let its : LiesIn b.ends page other = lies_in b.ends page other low (omega (arith, low, high)) in
    let differs : last.page ≢ page = λ same.
    apart ((cuts_cover b.pages b.ends cuts).by_no_other page other range its (subst (λ n. LiesIn b.ends n range) same (next_lies b range last.page next))) in
    ap (λ o. not (is_some o)) (scanned_last b.scans last page (λ none. ne_eqb last.page page differs)))

-- the first range with a next page is open
pub open_at :
    (b : BuildState) (range : ℕ) → range < length b.ends → ((k : ℕ) → k < range → next_page b k ≡ None) → is_some (next_page b range) ≡ true
    → open_range b ≡ Some range
open_at b range there none some =
    first_left (λ r. is_some (next_page b r)) 0 (length b.ends) range
    (λ k less. ap (λ r. is_some (next_page b r)) (zero-add k) ∙ ap is_some (none k less)) there
    (ap (λ r. is_some (next_page b r)) (zero-add range) ∙ some)
    ∙ ap (λ n. Some n) (zero-add range)

pub none_open : (b : BuildState) → ((k : ℕ) → k < length b.ends → next_page b k ≡ None) → open_range b ≡ None
none_open b none =
    none_left (λ r. is_some (next_page b r)) 0 (length b.ends) (λ k less. ap (λ r. is_some (next_page b r)) (zero-add k) ∙ ap is_some (none k less))

-- where no range is open

module _ (b : BuildState) (none : open_range b ≡ None) where
  -- no page comes next
  pub none_next : (range : ℕ) → range < length b.ends → next_page b range ≡ None
  none_next range there =
      not_some (next_page b range)
      (ap (λ r. is_some (next_page b r)) (sym (zero-add range)) ∙ all_fail (λ r. is_some (next_page b r)) 0 (length b.ends) none range there)

  pub no_page : (range page : ℕ) → next_page b range ≡ Some page → ⊥
  no_page range page next =
      let bad : None ≡ Some page = sym (none_next range (next_lies b range page next).there) ∙ next in cc

  -- and each page was copied
  pub all_copied : are_cuts b.pages b.ends ≡ true → (page : ℕ) → page < b.pages → (records : ℕ) × (scanned_at b.scans page ≡ Some records)
  all_copied cuts page less =
      let at = (cuts_cover b.pages b.ends cuts).by_one page less in
      let start : ℕ = range_start b.ends at.0 in
      let same : start + (page - start) ≡ page = omega (arith, at.1.low) in
      some_of (scanned_at b.scans page)
      (not-false (is_some (scanned_at b.scans page)) (sym (ap (is_left b) same)
      ∙ all_fail (is_left b) start (range_end b.ends at.0 - start) (none_next at.0 at.1.there) (page - start) (omega (arith, at.1.low, at.1.high))))

-- where the ranges of a build are so far, and its pages were copied as they were passed

module _
    (b : BuildState) (ranges : RangesValue) (are : AreRanges ranges) (ends : b.ends ≡ ranges.ends)
    (passed : (page : ℕ) → is_passed ranges page ≡ is_some (scanned_at b.scans page)) (range : ℕ) (there : range < length ranges.ends) where
  abbrev start : ℕ
  start = range_start ranges.ends range

  abbrev count : ℕ
  count = range_end ranges.ends range - start

  pages_are : next_page b range ≡ first_that (is_left b) (range_with_len start count)
  pages_are = ap (λ (es : List ℕ). first_that (is_left b) (range_pages es range)) ends

  -- a page of the range is left unless its range is past it
  left_is : (page : ℕ) → start ≤ page → page < range_end ranges.ends range → is_left b page ≡ not (nat_lt page (next_of ranges range))
  left_is page low high =
      let of = lies-range_of ranges.pages ranges.ends page range are.cuts (record { there = there; low = low; high = high }) in
      ap not (sym (passed page) ∙ ap (λ o. is_past ranges o page) of)

  pub next_none : is_done ranges range ≡ true → next_page b range ≡ None
  next_none done =
      let all : range_end ranges.ends range ≤ next_of ranges range = leb-true (range_end ranges.ends range) (next_of ranges range) done in
      pages_are ∙ none_left (is_left b) start count (λ k less.
      left_is (start + k) (omega arith) (omega (arith, less))
      ∙ ap not (lt-ltb (start + k) (next_of ranges range) (omega (arith, all, less))))

  pub next_is : is_done ranges range ≡ false → next_page b range ≡ Some (next_of ranges range)
  next_is open_yet =
      let next : ℕ = next_of ranges range in
      let high : next < range_end ranges.ends range = leb-false (range_end ranges.ends range) next open_yet in
      let low : start ≤ next = are.low range there in
      let same : start + (next - start) ≡ next = omega (arith, low) in
      pages_are
      ∙ first_left (is_left b) start count (next - start)
      (λ k less. left_is (start + k) (omega arith) (omega (arith, less, high, low)) ∙ ap not (lt-ltb (start + k) next (omega (arith, less, low))))
      (omega (arith, low, high))
      (ap (is_left b) same ∙ left_is next low high ∙ ap not (le-ltb next next (omega arith)))
      ∙ ap (λ n. Some n) same

  -- the page that comes next is the range's own
  pub next_page_is : (page : ℕ) → next_page b range ≡ Some page → (is_done ranges range ≡ false) × (page ≡ next_of ranges range)
  next_page_is page next = elim (cases_Bool (is_done ranges range)) [
    | inl done ↦ absurd (let bad : None ≡ Some page = sym (next_none done) ∙ next in cc)
    | inr open_yet ↦ (open_yet, same_Some page (next_of ranges range) (sym next ∙ next_is open_yet))
  ]

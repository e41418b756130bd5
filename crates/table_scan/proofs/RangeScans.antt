-- The scans of a build as its ranges go on, one page a time.
use Rattle.std.proofs.Common.{◌≡◌, ℕ, suc, ◌<◌, ◌≤◌, Bool, true, false, List, [], ◌∷◌, ◌++◌, length, Option, Some, None, refl, sym, ap, ◌∙◌, inl, inr, arith}
use Rattle.std.specs.Prelude.{◌||◌, ◌==◌, map, is_some, eqb}
use Rattle.std.specs.List.{AllByRecursion, IsDistinct, list_any}
use Rattle.std.proofs.lemmas.Bool.{cases_Bool, cond-true, cond-false, eqb-true, eqb-false, eq-eqb, ne_eqb, or_cases}
use Rattle.std.proofs.lemmas.List.Elements.{All-nil, All-push}
use Rattle.std.proofs.lemmas.Map.Steps.{length-le_from_distinct_below}
use Rattle.scan_range.specs.Cuts.{CutsValue}
use Rattle.scan_range.specs.Ranges.{RangesValue, AreRanges, at_start, after_advance, next_of, is_done, is_passed}
use Rattle.scan_range.proofs.Passed.{none_passed-at_start, passed-after_advance, passed-below, next-below, next-not_passed}
use Rattle.table_scan.specs.TableBuilds.{AreScansOf}
use Rattle.build_events.specs.Scanning.{ReadOnce, scanned_at}
use Rattle.build_events.specs.declared.scan.Scan.{Scan}
use Rattle.build_events.proofs.NextPages.{not_some}
use Rattle.build_events.proofs.ScanSteps.{scanned_last, scanned_new, once_last}

-- the pages that were copied
abbrev pages_of : List Scan → List ℕ
pages_of scans = map (λ scan. scan.page) scans

same_number : (m n : ℕ) → (m == n) ≡ (n == m)
same_number m n = elim (cases_Bool (n == m)) [
  | inl same ↦ eq-eqb m n (sym (eqb-true n m same)) ∙ sym same
  | inr differ ↦ ne_eqb m n (λ is. eqb-false n m differ (sym is)) ∙ sym differ
]

-- one of them is a page where it was copied
any_page : (scans : List Scan) (page : ℕ) → list_any (eqb page) (pages_of scans) ≡ is_some (scanned_at scans page)
any_page [] page = refl
any_page (scan ∷ scans) page =
    let rest : Option ℕ = scanned_at scans page in
    let turned : eqb page scan.page ≡ (scan.page == page) = same_number page scan.page in
    elim (cases_Bool (scan.page == page)) [
      | inl here ↦ rw (turned, here) refl
      | inr other ↦ rw (turned, other) (any_page scans page)
    ]

-- none of them is a page that was not
none_is : (scans : List Scan) (page : ℕ) → scanned_at scans page ≡ None → AllByRecursion (λ other. eqb page other ≡ false) (pages_of scans)
none_is [] page none = tt
none_is (scan ∷ scans) page none =
    let rest : Option ℕ = scanned_at scans page in
    elim (cases_Bool (scan.page == page)) [
      | inl here ↦ absurd (let some : Some scan.records ≡ None = sym (cond-true (scan.page == page) (Some scan.records) rest here) ∙ none in cc)
      | inr other ↦ (
        same_number page scan.page ∙ other,
        none_is scans page (sym (cond-false (scan.page == page) (Some scan.records) rest other) ∙ none),
      )
    ]

are_distinct : (scans : List Scan) → ReadOnce scans → IsDistinct eqb (pages_of scans)
unfolding IsDistinct
are_distinct [] once = tt
are_distinct (scan ∷ scans) once = (none_is scans scan.page once.0, are_distinct scans once.1)

-- pages that are copied once are no more than there are
pub few_scans : (scans : List Scan) (pages : ℕ) → ReadOnce scans → ((page : ℕ) → is_some (scanned_at scans page) ≡ true → page < pages) → length scans ≤ pages
few_scans scans pages once below =
    let few = length-le_from_distinct_below (pages_of scans) pages (are_distinct scans once) (λ page any. below page (sym (any_page scans page) ∙ any)) in
    omega (arith, few, count scans) where
      count : (xs : List Scan) → length (pages_of xs) ≡ length xs
      count [] = refl
      count (x ∷ xs) = ap suc (count xs)

-- a page more is copied, and no other
pub scanned_more :
    (scans : List Scan) (last : Scan) (page : ℕ) → scanned_at scans last.page ≡ None
    → is_some (scanned_at (scans ++ last ∷ []) page) ≡ (is_some (scanned_at scans page) || page == last.page)
scanned_more scans last page none = elim (cases_Bool (last.page == page)) [
  | inl here ↦
      let at : last.page ≡ page = eqb-true last.page page here in
      ap (λ n. is_some (scanned_at (scans ++ last ∷ []) n)) (sym at) ∙ ap is_some (scanned_new scans last none)
      ∙ sym (or_true (is_some (scanned_at scans page)) (page == last.page) (same_number page last.page ∙ here))
  | inr other ↦
      ap is_some (scanned_last scans last page (λ e. other))
      ∙ sym (or_no (is_some (scanned_at scans page)) (page == last.page) (same_number page last.page ∙ other))
] where
  or_true : (a x : Bool) → x ≡ true → (a || x) ≡ true
  or_true true x e = refl
  or_true false x e = e

  or_no : (a x : Bool) → x ≡ false → (a || x) ≡ a
  or_no true x e = refl
  or_no false x e = e

-- at the start nothing was copied
pub none_copied : (cuts : CutsValue) (workers : ℕ) → cuts.pages ≤ 65536 → AreScansOf (at_start cuts) workers []
none_copied cuts workers limit = record {
  limit = limit;
  within = omega arith;
  once = tt;
  passed = λ page. none_passed-at_start cuts page;
  for_workers = All-nil (λ scan. scan.worker < workers);
}

module _
    (ranges : RangesValue) (workers : ℕ) (scans : List Scan) (are : AreRanges ranges) (of : AreScansOf ranges workers scans)
    (range worker records : ℕ) (there : range < length ranges.ends) (open_yet : is_done ranges range ≡ false) (for : worker < workers) where
  abbrev last : Scan
  last = record { worker = worker; page = next_of ranges range; records = records }

  unscanned : scanned_at scans last.page ≡ None
  unscanned = not_some (scanned_at scans last.page) (sym (of.passed last.page) ∙ next-not_passed ranges range are there open_yet)

  same_passed : (page : ℕ) → is_passed (after_advance ranges range) page ≡ is_some (scanned_at (scans ++ last ∷ []) page)
  same_passed page =
      passed-after_advance ranges range page are there open_yet
      ∙ ap (λ x. x || page == last.page) (of.passed page) ∙ sym (scanned_more scans last page unscanned)

  below : (page : ℕ) → is_some (scanned_at (scans ++ last ∷ []) page) ≡ true → page < ranges.pages
  below page is = elim (or_cases (is_some (scanned_at scans page)) (page == last.page) (sym (scanned_more scans last page unscanned) ∙ is)) [
    | inl old ↦ passed-below ranges page are (of.passed page ∙ old)
    | inr new ↦
        let same : page ≡ last.page = eqb-true page last.page new in
        let less = next-below ranges range are there open_yet in
        omega (arith, same, less)
  ]

  -- the next page of a range is copied, and its range goes on
  pub one_copied : AreScansOf (after_advance ranges range) workers (scans ++ last ∷ [])
  one_copied =
      let once : ReadOnce (scans ++ last ∷ []) = once_last scans last of.once unscanned in
      record {
        limit = of.limit;
        within = few_scans (scans ++ last ∷ []) ranges.pages once below;
        once = once;
        passed = same_passed;
        for_workers = All-push (λ scan. scan.worker < workers) scans last of.for_workers for;
      }

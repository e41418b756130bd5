-- What each step of a build does to what it has read: its start, a record more, a page more.
use Rattle.std.proofs.Common.{◌≡◌, ℕ, zero, suc, ◌<◌, ◌≤◌, false, List, [], ◌∷◌, ◌++◌, length, take, Option, Some, None, refl, sym, ap, ◌∙◌}
use Rattle.std.proofs.Common.{inl, inr, arith, take_all}
use Rattle.std.specs.Prelude.{is_some, ◌||◌, ◌==◌, nat_le, flat_map}
use Rattle.std.specs.List.{All}
use Rattle.std.proofs.lemmas.Bool.{cases_Bool, cond-true, cond-false, false_from_ne_true, eq-eqb, ne_eqb, eqb-true, eqb-false, le-leb, lt-leb}
use Rattle.std.proofs.lemmas.List.{take-append-le}
use Rattle.std.proofs.lemmas.List.Elements.{All-nil, All-head, All-tail, All-push, All-weaker}
use Rattle.keybytes.specs.Keys.{KeySpecValue}
use Rattle.keybytes.specs.declared.rid.Rid.{Rid}
use Rattle.heap_log.specs.declared.record.LogRec.{LogRec}
use Rattle.heap_log.proofs.Records.{length-added}
use Rattle.heap_table.specs.Pages.{pages_written}
use Rattle.heap_table.specs.TablePairs.{pairs_on}
use Rattle.build_events.specs.Scanning.{Scanning, scanned_at, is_by, is_visible, pairs_at_scan, scanned_pairs, IsScanOf, ReadOnce, IsScanned}
use Rattle.build_events.specs.Scanning.{opened_scanning, with_scan}
use Rattle.build_events.specs.declared.scan.Scan.{Scan}
use Rattle.build_events.proofs.Seen.{IsScanAt, scan_at}

-- the start

-- which pages were read is the same for each index, and so for this one
pub no_spec : KeySpecValue
no_spec = record { kinds = []; columns = []; unique = false; condition = None }

pub opened_scanned : (spec : KeySpecValue) (log : List LogRec) → IsScanned (opened_scanning spec log) log
opened_scanned spec log = record {
  opened = omega arith;
  pages = ap pages_written (sym (take_all (length log) log (omega arith)));
  scans = All-nil (IsScanOf (opened_scanning spec log) log);
  once = tt;
}

-- a record more

pub pairs_kept :
    (b : Scanning) (log : List LogRec) (rec : LogRec) (scans : List Scan) → All (IsScanOf b log) scans
    → flat_map (pairs_at_scan b (log ++ rec ∷ [])) scans ≡ flat_map (pairs_at_scan b log) scans
pairs_kept b log rec [] all = refl
pairs_kept b log rec (scan ∷ scans) all =
    let it : IsScanOf b log scan = All-head (IsScanOf b log) scan scans all in
    ap (λ l. pairs_on b.spec l scan.page ++ flat_map (pairs_at_scan b (log ++ rec ∷ [])) scans) (take-append-le scan.records log (rec ∷ []) it.within)
    ∙ ap (λ ps. pairs_at_scan b log scan ++ ps) (pairs_kept b log rec scans (All-tail (IsScanOf b log) scan scans all))

-- the pairs that were read stay
pub same_pairs : (b : Scanning) (log : List LogRec) (rec : LogRec) → IsScanned b log → scanned_pairs b (log ++ rec ∷ []) ≡ scanned_pairs b log
same_pairs b log rec is = pairs_kept b log rec b.scans is.scans

pub more_scanned : (b : Scanning) (log : List LogRec) (rec : LogRec) → IsScanned b log → IsScanned b (log ++ rec ∷ [])
more_scanned b log rec is =
    let new : List LogRec = log ++ rec ∷ [] in
    let longer : length log ≤ length new = omega (arith, length-added log rec) in
    record {
      opened = omega (arith, is.opened, longer);
      pages = is.pages ∙ ap pages_written (sym (take-append-le b.opened log (rec ∷ []) is.opened));
      scans = All-weaker (IsScanOf b log) (IsScanOf b new) (λ scan it. record {
        page = it.page;
        opened = it.opened;
        within = omega (arith, it.within, longer);
      }) b.scans is.scans;
      once = is.once;
    }

-- a page more

-- the scan of a page by that worker now
abbrev pub scan_now : ℕ → ℕ → List LogRec → Scan
scan_now worker page log = record { worker = worker; page = page; records = length log }

-- a scan more is that of its page alone
pub scanned_last :
    (scans : List Scan) (last : Scan) (page : ℕ) → (scanned_at scans page ≡ None → (last.page == page) ≡ false)
    → scanned_at (scans ++ last ∷ []) page ≡ scanned_at scans page
scanned_last [] last page other = cond-false (last.page == page) (Some last.records) None (other refl)
scanned_last (scan ∷ scans) last page other =
    let at : Option ℕ = Some scan.records in
    let now : Option ℕ = scanned_at (scans ++ last ∷ []) page in
    elim (cases_Bool (scan.page == page)) [
      | inl here ↦ cond-true (scan.page == page) at now here ∙ sym (cond-true (scan.page == page) at (scanned_at scans page) here)
      | inr apart ↦
          let rest : scanned_at scans page ≡ scanned_at (scan ∷ scans) page =
          sym (cond-false (scan.page == page) at (scanned_at scans page) apart) in
          cond-false (scan.page == page) at now apart ∙ scanned_last scans last page (λ e. other (sym rest ∙ e)) ∙ rest
    ]

pub scanned_new :
    (scans : List Scan) (last : Scan) → scanned_at scans last.page ≡ None
    → scanned_at (scans ++ last ∷ []) last.page ≡ Some last.records
scanned_new [] last none = cond-true (last.page == last.page) (Some last.records) None (eq-eqb last.page last.page refl)
scanned_new (scan ∷ scans) last none =
    let at : Option ℕ = Some scan.records in
    let before : Option ℕ = scanned_at scans last.page in
    elim (cases_Bool (scan.page == last.page)) [
      | inl here ↦ let some : at ≡ None = sym (cond-true (scan.page == last.page) at before here) ∙ none in absurd (cc)
      | inr apart ↦
          cond-false (scan.page == last.page) at (scanned_at (scans ++ last ∷ []) last.page) apart
          ∙ scanned_new scans last (sym (cond-false (scan.page == last.page) at before apart) ∙ none)
    ]

-- what is read now was not seen while the log was shorter
by_same :
    (scans : List Scan) (last : Scan) (count page : ℕ) → scanned_at scans last.page ≡ None → count < last.records
    → is_by count (scanned_at (scans ++ last ∷ []) page) ≡ is_by count (scanned_at scans page)
by_same scans last count page none early =
    elim (cases_Bool (last.page == page)) [
      | inl here ↦
          let same : last.page ≡ page = eqb-true last.page page here in
          let now : scanned_at (scans ++ last ∷ []) page ≡ Some last.records =
          sym (ap (scanned_at (scans ++ last ∷ [])) same) ∙ scanned_new scans last none in
          let before : scanned_at scans page ≡ None = sym (ap (scanned_at scans) same) ∙ none in
          ap (is_by count) now ∙ lt-leb last.records count early ∙ sym (ap (is_by count) before)
      | inr other ↦ ap (is_by count) (scanned_last scans last page (λ e. other))
    ]

pub visible_same :
    (b : Scanning) (worker page : ℕ) (log : List LogRec) (count : ℕ) (rid : Rid) → scanned_at b.scans page ≡ None → count < length log
    → is_visible (with_scan b worker page log) count rid ≡ is_visible b count rid
visible_same b worker page log count rid none early =
    ap (λ x. nat_le b.pages rid.page || x) (by_same b.scans (scan_now worker page log) count rid.page none early)

turned : (m n : ℕ) → (m == n) ≡ false → (n == m) ≡ false
turned m n e = ne_eqb n m (λ is. eqb-false m n e (sym is))

pub once_last : (scans : List Scan) (last : Scan) → ReadOnce scans → scanned_at scans last.page ≡ None → ReadOnce (scans ++ last ∷ [])
once_last [] last once none = (refl, tt)
once_last (scan ∷ scans) last once none =
    let at : Option ℕ = Some scan.records in
    let before : Option ℕ = scanned_at scans last.page in
    let apart : (scan.page == last.page) ≡ false =
    false_from_ne_true (scan.page == last.page) (λ here.
    let some : at ≡ None = sym (cond-true (scan.page == last.page) at before here) ∙ none in absurd (cc)) in
    let rest : before ≡ None = sym (cond-false (scan.page == last.page) at before apart) ∙ none in
    (scanned_last scans last scan.page (λ e. turned scan.page last.page apart) ∙ once.0, once_last scans last once.1 rest)

pub scan_scanned :
    (b : Scanning) (worker page : ℕ) (log : List LogRec) → IsScanned b log → page < b.pages → scanned_at b.scans page ≡ None
    → IsScanned (with_scan b worker page log) log
scan_scanned b worker page log is inside none =
    let new : Scanning = with_scan b worker page log in
    record {
      opened = is.opened;
      pages = is.pages;
      scans = All-push (IsScanOf new log) b.scans (scan_now worker page log)
          (All-weaker (IsScanOf b log) (IsScanOf new log) (λ scan it. record { page = it.page; opened = it.opened; within = it.within }) b.scans is.scans)
          (record { page = inside; opened = is.opened; within = omega arith });
      once = once_last b.scans (scan_now worker page log) is.once none;
    }

-- when a page was read need not be kept

by_now :
    (b : Scanning) (log : List LogRec) (page : ℕ) (o : Option ℕ) → IsScanned b log → scanned_at b.scans page ≡ o
    → is_by (length log) o ≡ is_some o
by_now b log page None is e = refl
by_now b log page (Some records) is e =
    let it : IsScanAt b log page records = scan_at b log b.scans is.scans page records e in
    le-leb records (length log) it.within

-- by now a build sees the pages that are newer and those that it has read
pub visible_now :
    (b : Scanning) (log : List LogRec) (rid : Rid) → IsScanned b log
    → is_visible b (length log) rid ≡ (nat_le b.pages rid.page || is_some (scanned_at b.scans rid.page))
visible_now b log rid is = ap (λ x. nat_le b.pages rid.page || x) (by_now b log rid.page (scanned_at b.scans rid.page) is refl)

-- the beginning of a log has no more pages
pub pages_grow : (n : ℕ) (log : List LogRec) → pages_written (take n log) ≤ pages_written log
pages_grow zero log = omega arith
pages_grow (suc n) [] = omega arith
pages_grow (suc n) (rec ∷ log) = let rest = pages_grow n log in omega (arith, rest)

-- No pair was read twice.
use Rattle.std.proofs.Common.{◌≡◌, ℕ, true, false, arith, List, [], ◌∷◌, Option, Some, None, refl, sym, ap, ◌∙◌}
use Rattle.std.specs.Prelude.{filter_map, flat_map, ◌==◌}
use Rattle.std.specs.List.{AllByRecursion, IsDistinct, cons_option}
use Rattle.std.specs.Ordering.{eq_by_cmp}
use Rattle.std.proofs.lemmas.Bool.{false_from_ne_true, cond-true, cond-false}
use Rattle.keybytes.specs.Keys.{KeySpecValue}
use Rattle.keybytes.specs.Pairs.{pair_cmp}
use Rattle.keybytes.specs.declared.pair.Pair.{Pair}
use Rattle.keybytes.specs.declared.rid.Rid.{Rid}
use Rattle.keybytes.proofs.PairSets.{apart}
use Rattle.heap_log.specs.declared.record.LogRec.{LogRec}
use Rattle.heap_log.specs.Growing.{first_records}
use Rattle.heap_log.specs.Standing.{live_at}
use Rattle.heap_table.specs.Pages.{slots_written}
use Rattle.heap_table.specs.TablePairs.{pair_at, pairs_on, rids_on}
use Rattle.heap_table.proofs.PairsAtRest.{distinct_append, all_weaker, all_append, on_page, page_distinct}
use Rattle.heap_table.proofs.TablePairs.{own_pair}
use Rattle.build_events.specs.Scanning.{Scanning, ReadOnce, pairs_at_scan, scanned_at}
use Rattle.build_events.specs.declared.scan.Scan.{Scan}

one_on : (spec : KeySpecValue) (log : List LogRec) (page : ℕ) (r : Rid) (rs : List Rid) (o : Option Pair) → pair_at spec log r ≡ o → r.page ≡ page
    → AllByRecursion (λ q. q.rid.page ≡ page) (filter_map (pair_at spec log) rs) → AllByRecursion (λ q. q.rid.page ≡ page) (cons_option o (filter_map (pair_at spec log) rs))
one_on spec log page r rs None is here rest = rest
one_on spec log page r rs (Some q) is here rest = (ap (λ (x : Rid). x.page) (own_pair spec r (live_at log r) q is) ∙ here, rest)

all_on : (spec : KeySpecValue) (log : List LogRec) (page : ℕ) (rids : List Rid) → AllByRecursion (λ r. r.page ≡ page) rids → AllByRecursion (λ q. q.rid.page ≡ page) (filter_map (pair_at spec log) rids)
all_on spec log page [] all = tt
all_on spec log page (r ∷ rs) all = one_on spec log page r rs (pair_at spec log r) refl all.0 (all_on spec log page rs all.1)

-- the pairs of a page are on it
pairs_are_on : (spec : KeySpecValue) (log : List LogRec) (page : ℕ) → AllByRecursion (λ q. q.rid.page ≡ page) (pairs_on spec log page)
pairs_are_on spec log page = all_on spec log page (rids_on log page) (on_page page 0 (slots_written log page))

abbrev IsElsewhere : ℕ → Pair → Type 0
IsElsewhere page q = q.rid.page ≡ page → ⊥

same_number : (m n : ℕ) → m ≡ n → (m == n) ≡ true
same_number m n e = grind (arith, e)

differs : (scan : Scan) (scans : List Scan) (page : ℕ) → scanned_at (scan ∷ scans) page ≡ None → (scan.page == page) ≡ true → ⊥
differs scan scans page none e =
    let some : Some scan.records ≡ None = sym (cond-true (scan.page == page) (Some scan.records) (scanned_at scans page) e) ∙ none in cc

-- a page that wasn't read is none of those that were
other_page : (scan : Scan) (scans : List Scan) (page : ℕ) → scanned_at (scan ∷ scans) page ≡ None → (scan.page ≡ page → ⊥) × (scanned_at scans page ≡ None)
other_page scan scans page none = (
  λ same. differs scan scans page none (same_number scan.page page same),
  sym (cond-false (scan.page == page) (Some scan.records) (scanned_at scans page) (false_from_ne_true (scan.page == page) (differs scan scans page none))) ∙ none,
)

-- those of other pages are elsewhere
are_elsewhere : (b : Scanning) (log : List LogRec) (scans : List Scan) (page : ℕ) → scanned_at scans page ≡ None → AllByRecursion (IsElsewhere page) (flat_map (pairs_at_scan b log) scans)
are_elsewhere b log [] page none = tt
are_elsewhere b log (scan ∷ scans) page none =
    let other = other_page scan scans page none in
    all_append (IsElsewhere page) (pairs_at_scan b log scan) (flat_map (pairs_at_scan b log) scans)
    (all_weaker (λ q. q.rid.page ≡ scan.page) (IsElsewhere page) (λ q on at. other.0 (sym on ∙ at)) (pairs_at_scan b log scan)
    (pairs_are_on b.spec (first_records scan.records log) scan.page))
    (are_elsewhere b log scans page other.1)

-- pages that are read once give no pair twice
pub scanned_distinct : (b : Scanning) (log : List LogRec) (scans : List Scan) → ReadOnce scans → IsDistinct (eq_by_cmp pair_cmp) (flat_map (pairs_at_scan b log) scans)
unfolding IsDistinct
scanned_distinct b log [] once = tt
scanned_distinct b log (scan ∷ scans) once =
    let here : List Pair = pairs_at_scan b log scan in
    let rest : List Pair = flat_map (pairs_at_scan b log) scans in
    distinct_append (eq_by_cmp pair_cmp) here rest (page_distinct b.spec (first_records scan.records log) scan.page) (scanned_distinct b log scans once.1)
    (all_weaker (λ q. q.rid.page ≡ scan.page) (λ q. AllByRecursion (λ y. eq_by_cmp pair_cmp q y ≡ false) rest)
    (λ q on. all_weaker (IsElsewhere scan.page) (λ y. eq_by_cmp pair_cmp q y ≡ false)
    (λ y other. apart q y (λ same. other (sym (ap (λ (r : Rid). r.page) same) ∙ on)))
    rest (are_elsewhere b log scans scan.page once.0))
    here (pairs_are_on b.spec (first_records scan.records log) scan.page))

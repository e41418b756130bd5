-- How the pairs of pages are made, row by row.
use Rattle.std.proofs.Common.{◌≡◌, ℕ, zero, suc, add-one, ◌+◌, true, List, [], ◌∷◌, ◌++◌, append-nil, Option, Some, None, refl, sym, ap, ◌∙◌}
use Rattle.std.specs.Prelude.{filter_map, map, All}
use Rattle.std.specs.List.{range_with_len, cons_option, AllByRecursion}
use Rattle.std.specs.Option.{option_map}
use Rattle.std.proofs.lemmas.List.Elements.{All-from_recursion}
use Rattle.keybytes.specs.Cells.{fits}
use Rattle.keybytes.specs.Keys.{KeySpecValue}
use Rattle.keybytes.specs.Pairs.{pair_with}
use Rattle.keybytes.specs.declared.cell.Cell.{Cell}
use Rattle.keybytes.specs.declared.kind.Kind.{Kind}
use Rattle.heap_log.specs.declared.record.LogRec.{LogRec}
use Rattle.heap_log.specs.Standing.{live_at}
use Rattle.heap_table.specs.HeapState.{HeapState, after_visit}
use Rattle.heap_table.specs.Kept.{RowsFit}
use Rattle.heap_table.specs.Pages.{rid_at, row_in, rows_on, slots_written}
use Rattle.heap_table.specs.TablePairs.{pair_at, pair_of, pairs_on, pairs_from}
use Rattle.build_events.specs.CoreState.{after_visits}
use Rattle.heap_table.proofs.PairsAtRest.{pairs_joined}

-- the pairs of rows with their RIDs
rows_step :
    (spec : KeySpecValue) (log : List LogRec) (page slot : ℕ) (slots : List ℕ) (o : Option (List Cell))
    → filter_map (pair_of spec) (filter_map (row_in log page) slots) ≡ filter_map (pair_at spec log) (map (rid_at page) slots)
    → filter_map (pair_of spec) (cons_option (option_map (λ cells. (rid_at page slot, cells)) o) (filter_map (row_in log page) slots))
    ≡ cons_option (pair_with spec (rid_at page slot) o) (filter_map (pair_at spec log) (map (rid_at page) slots))
rows_step spec log page slot slots None e = e
rows_step spec log page slot slots (Some row) e = ap (cons_option (pair_with spec (rid_at page slot) (Some row))) e

pairs_of_rows : (spec : KeySpecValue) (log : List LogRec) (page : ℕ) (slots : List ℕ) → filter_map (pair_of spec) (filter_map (row_in log page) slots) ≡ filter_map (pair_at spec log) (map (rid_at page) slots)
pairs_of_rows spec log page [] = refl
pairs_of_rows spec log page (slot ∷ slots) = rows_step spec log page slot slots (live_at log (rid_at page slot)) (pairs_of_rows spec log page slots)

pub rows_pairs : (spec : KeySpecValue) (log : List LogRec) (page : ℕ) → filter_map (pair_of spec) (rows_on log page) ≡ pairs_on spec log page
rows_pairs spec log page = pairs_of_rows spec log page (range_with_len 0 (slots_written log page))

fit_step :
    (kinds : List Kind) (log : List LogRec) (page slot : ℕ) (slots : List ℕ) (o : Option (List Cell)) → live_at log (rid_at page slot) ≡ o → RowsFit kinds log
    → AllByRecursion (λ row. fits kinds row.1 ≡ true) (filter_map (row_in log page) slots)
    → AllByRecursion (λ row. fits kinds row.1 ≡ true) (cons_option (option_map (λ cells. (rid_at page slot, cells)) o) (filter_map (row_in log page) slots))
fit_step kinds log page slot slots None is fit rest = rest
fit_step kinds log page slot slots (Some row) is fit rest = (fit.fitting (rid_at page slot) row is, rest)

fit_slots : (kinds : List Kind) (log : List LogRec) (page : ℕ) (slots : List ℕ) → RowsFit kinds log → AllByRecursion (λ row. fits kinds row.1 ≡ true) (filter_map (row_in log page) slots)
fit_slots kinds log page [] fit = tt
fit_slots kinds log page (slot ∷ slots) fit = fit_step kinds log page slot slots (live_at log (rid_at page slot)) refl fit (fit_slots kinds log page slots fit)

-- the rows of a page fit the columns
pub rows_fit_page : (kinds : List Kind) (log : List LogRec) (page : ℕ) → RowsFit kinds log → All (λ row. fits kinds row.1 ≡ true) (rows_on log page)
rows_fit_page kinds log page fit =
    All-from_recursion (λ row. fits kinds row.1 ≡ true) (rows_on log page) (fit_slots kinds log page (range_with_len 0 (slots_written log page)) fit)

-- one page more
pub page_more : (spec : KeySpecValue) (log : List LogRec) (first n : ℕ) → pairs_from spec log first (n + 1) ≡ pairs_from spec log first n ++ pairs_on spec log (first + n)
page_more spec log first n = pairs_joined spec log first n 1 ∙ ap (λ ps. pairs_from spec log first n ++ ps) (append-nil (pairs_on spec log (first + n)))

-- visits change nothing else
pub visits_only : (heap : HeapState) (n : ℕ) → after_visits heap n ≡ record heap { visits = (after_visits heap n).visits }
visits_only heap zero = refl
visits_only heap (suc n) = ap after_visit (visits_only heap n)

pub visit_more : (heap : HeapState) (n : ℕ) → after_visits heap (n + 1) ≡ after_visit (after_visits heap n)
visit_more heap n = ap (after_visits heap) (add-one n)

pub visits_changed : (heap new : HeapState) (n : ℕ) → new ≡ after_visits heap n → new ≡ record heap { visits = new.visits }
visits_changed heap new n is =
    is ∙ visits_only heap n ∙ ap (λ (h : HeapState). record heap { visits = h.visits }) (sym is)

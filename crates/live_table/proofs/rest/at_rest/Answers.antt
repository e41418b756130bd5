use Rattle.std.proofs.Common.{◌≡◌, ◌∙◌, ◌+◌, ◌++◌, List, true, ap, sym, subst, zero-add, filter_map, arith}
use Rattle.std.specs.Prelude.{All}
use Rattle.keybytes.specs.Cells.{fits}
use Rattle.keybytes.specs.declared.cell.Cell.{Cell}
use Rattle.keybytes.specs.declared.kind.Kind.{Kind}
use Rattle.keybytes.specs.declared.rid.Rid.{Rid}
use Rattle.heap_table.specs.HeapState.{HeapState, after_visit}
use Rattle.heap_table.specs.HeapValue.{HeapValue}
use Rattle.heap_table.specs.Pages.{pages_written, rows_on}
use Rattle.heap_table.specs.TablePairs.{pair_of, pairs_on, pairs_from, index_pairs}
use Rattle.keybytes.specs.Pairs.{HaveKeysOf, AreInColumnOrder}
use Rattle.heap_table.proofs.KeysAtRest.{keys_at_rest}
use Rattle.keybytes.proofs.ColumnOrder.{column_order}
use Rattle.build_events.proofs.Making.{rows_pairs, rows_fit_page, page_more, visits_only, visit_more, visits_changed}
use Rattle.heap_table.proofs.PairsAtRest.{in_order}
use Rattle.live_table.proofs.rest.at_rest.Goals as goal

pub page_rows-requires : goal.page_rows-requires
page_rows-requires c =
    let pages = ap (λ (h : HeapState). pages_written h.log) (c.loop-page.invariant.visits ∙ visits_only c.args.heap.now.state c.loop-page.page) in
    omega (arith, pages, c.loop-page-test.true, c.pages-page-end.ensures.pages)

pub returns-in_err-rows-clause-rows : goal.returns-in_err-rows-clause-rows
returns-in_err-rows-clause-rows c =
    visits_changed c.args.heap.now.state c.page_rows.new.self.state c.loop-page.page (ap (λ (h : HeapValue). h.state) c.in_err-rows.ensures.unchanged ∙ c.loop-page.invariant.visits)

pub add_rows-requires : goal.add_rows-requires
add_rows-requires c =
    let page = c.loop-page.page in
    let rows : c.deref.result.now ≡ rows_on c.args.heap.now.state.log page =
    c.deref.ensures.value ∙ c.in_ok-rows.ensures.ok
    ∙ ap (λ (h : HeapState). rows_on h.log page) (c.loop-page.invariant.visits ∙ visits_only c.args.heap.now.state page) in
    let Fit : List Kind → List (Rid × List Cell) → Type 0 = λ kinds rows. All (λ row. fits kinds row.1 ≡ true) rows in
    subst (Fit c.args.spec.now.kinds) (sym rows)
    (subst (λ kinds. Fit kinds (rows_on c.args.heap.now.state.log page)) (sym c.requires)
    (rows_fit_page c.args.heap.now.state.schema c.args.heap.now.state.log page c.laws.ensures.rows))

pub returns-in_err-add_rows-clause-rows : goal.returns-in_err-add_rows-clause-rows
returns-in_err-add_rows-clause-rows c =
    visits_changed c.args.heap.now.state c.page_rows.new.self.state (c.loop-page.page + 1)
    (c.in_ok-rows.ensures.visited ∙ ap after_visit c.loop-page.invariant.visits ∙ sym (visit_more c.args.heap.now.state c.loop-page.page))

pub loop-page-preserved : goal.loop-page-preserved
loop-page-preserved c =
    let page = c.loop-page.page in
    let spec = c.args.spec.now in
    let log = c.args.heap.now.state.log in
    let so_far = c.loop-page.pairs.items in
    let rows : c.deref.result.now ≡ rows_on log page =
    c.deref.ensures.value ∙ c.in_ok-rows.ensures.ok
    ∙ ap (λ (h : HeapState). rows_on h.log page) (c.loop-page.invariant.visits ∙ visits_only c.args.heap.now.state page) in
    record {
      made =
          c.in_ok-add_rows.ensures.ok
          ∙ ap (λ (rs : List (Rid × List Cell)). so_far ++ filter_map (pair_of spec) rs) rows
          ∙ ap (λ ps. so_far ++ ps) (rows_pairs spec log page)
          ∙ ap (λ ps. ps ++ pairs_on spec log page) c.loop-page.invariant.made
          ∙ ap (λ n. pairs_from spec log 0 page ++ pairs_on spec log n) (sym (zero-add page))
          ∙ sym (page_more spec log 0 page);
      visits = c.in_ok-rows.ensures.visited ∙ ap after_visit c.loop-page.invariant.visits ∙ sym (visit_more c.args.heap.now.state page);
    }

pub returns-clause-ok : goal.returns-clause-ok
returns-clause-ok c =
    let log = c.args.heap.now.state.log in
    let all : c.loop-page.page ≡ pages_written log = omega (arith, c.loop-page-test.false, c.loop-page.auto.page-end, c.pages-page-end.ensures.pages) in
    in_order c.args.spec.now log c.loop-page.pairs.items c.sort_unstable.new.self.items
    (c.loop-page.invariant.made ∙ ap (pairs_from c.args.spec.now log 0) all) c.sort_unstable.ensures.permutation c.sort_unstable.ensures.sorted

pub returns-in_err-rows-clause-read : goal.returns-in_err-rows-clause-read
returns-in_err-rows-clause-read c = record {
  times = c.loop-page.page;
  few = omega (arith, c.loop-page-test.true, c.pages-page-end.ensures.pages);
  after = ap (λ (h : HeapValue). h.state) c.in_err-rows.ensures.unchanged ∙ c.loop-page.invariant.visits;
}

pub returns-in_err-add_rows-clause-read : goal.returns-in_err-add_rows-clause-read
returns-in_err-add_rows-clause-read c = record {
  times = c.loop-page.page + 1;
  few = omega (arith, c.loop-page-test.true, c.pages-page-end.ensures.pages);
  after = c.in_ok-rows.ensures.visited ∙ ap after_visit c.loop-page.invariant.visits ∙ sym (visit_more c.args.heap.now.state c.loop-page.page);
}

pub returns-clause-read : goal.returns-clause-read
returns-clause-read c = record {
  times = c.loop-page.page;
  few = omega (arith, c.loop-page.auto.page-end, c.pages-page-end.ensures.pages);
  after = c.loop-page.invariant.visits;
}

pub returns-clause-rows : goal.returns-clause-rows
returns-clause-rows c = visits_changed c.args.heap.now.state c.loop-page.heap.state c.loop-page.page c.loop-page.invariant.visits

pub returns-clause-keys : goal.returns-clause-keys
returns-clause-keys c =
    subst (HaveKeysOf c.args.spec.now) (sym (returns-clause-ok c))
    (keys_at_rest c.args.spec.now c.args.heap.now.state.schema c.args.heap.now.state.log c.requires c.laws.ensures.rows)

pub returns-clause-order : goal.returns-clause-order
returns-clause-order c =
    subst (AreInColumnOrder c.args.spec.now) (sym (returns-clause-ok c)) (column_order c.args.spec.now (index_pairs c.args.spec.now c.args.heap.now.state.log) c.columns-columns.ensures.key)

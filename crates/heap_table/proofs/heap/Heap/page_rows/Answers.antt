use Rattle.std.proofs.Common.{◌≡◌, ◌<◌, ◌++◌, ◌∷◌, [], ◌∙◌, Some, None, length, sym, ap, subst, arith, append-nil}
use Rattle.std.proofs.lemmas.Result.{err_from_is_err_and}
use Rattle.std.specs.List.{range_with_len, filter_map}
use Rattle.std.specs.Option.{option_map}
use Rattle.heap_log.specs.Standing.{live_at}
use Rattle.slotted_page.specs.Page.{PageValue}
use Rattle.heap_table.specs.HeapValue.{HeapValue}
use Rattle.heap_table.specs.Pages.{rid_at, row_in, slots_written, slot_of}
use Rattle.heap_table.proofs.Showing.{shows_none, shows_spelled, spelled_memory}
use Rattle.heap_table.proofs.PageLists.{length_page_by}
use Rattle.heap_table.proofs.KeptFacts.{kept_count, kept_page, page_shows, rows_more, kept_now}
use Rattle.heap_table.proofs.heap.Heap.page_rows.Goals as goal
use Rattle.heap_table.proofs.heap.Heap.page_rows.Goals.{in-Some+in_ok-row+in_ok-push, in_default}

pub page-page_now-requires : goal.page-page_now-requires
page-page_now-requires c =
    let kept = kept_now _ _ _ c.self.view_is c.self.invariant in
    omega (arith, c.requires, kept_count _ _ kept)

pub returns-in_err-row-clause-memory : goal.returns-in_err-row-clause-memory
returns-in_err-row-clause-memory c =
    let p = err_from_is_err_and c.from_residual.result c.from_residual.ensures.1 in
    let kept = kept_now _ _ _ c.self.view_is c.self.invariant in
    let below : c.args.page < length c.self.inside.pages.pages = omega (arith, c.requires, kept_count _ _ kept) in
    let shows = page_shows _ _ c.args.page c.loop-slot.slot c.page-page_now.result.now c.self.invariant.kept below
    (c.page-page_now.ensures c.page-page_now.result.now) in
    let spelled = shows_spelled c.self.inside.schema _ c.in-Some.bytes.now _ c.in-Some.ensures.bytes shows in
    rw (p.1, p.2) (spelled_memory _ _ spelled.0 _ spelled.1.1 c.in_err-row.ensures.refused)

pub loop-slot-preserved : goal.loop-slot-preserved
loop-slot-preserved c =
    let kept = kept_now _ _ _ c.self.view_is c.self.invariant in
    let below : c.args.page < length c.self.inside.pages.pages = omega (arith, c.requires, kept_count _ _ kept) in
    let log = c.args.self.now.state.log in
    let slot = c.loop-slot.slot in
    let page = c.args.page in
    let so_far = filter_map (row_in log page) (range_with_len 0 slot) in
    let shows = page_shows c.args.self.now.state _ page slot c.page-page_now.result.now kept below (c.page-page_now.ensures c.page-page_now.result.now) in
    let inside = page_shows _ _ page slot c.page-page_now.result.now c.self.invariant.kept below (c.page-page_now.ensures c.page-page_now.result.now) in
    elim c.match-row.branch [
      | in-Some+in_ok-row+in_ok-push w ↦
          let spelled = shows_spelled c.self.inside.schema _ w.in-Some.bytes.now _ w.in-Some.ensures.bytes inside in
          let stands = spelled.1.0 ∙ ap Some (w.in_ok-row.ensures.alone spelled.0 spelled.1.1) in
          let live : live_at log (rid_at page slot) ≡ Some w.in_ok-row.row =
          subst (λ (h : HeapValue). live_at h.state.log (rid_at page slot) ≡ Some w.in_ok-row.row) c.self.view_is stands in
          let found : row_in log page slot ≡ Some (rid_at page slot, w.in_ok-row.row) =
          ap (option_map (λ cells. (rid_at page slot, cells))) live in
          rw w.rows-is (w.in_ok-push.ensures.items
          ∙ (ap (λ xs. xs ++ (rid_at page slot, w.in_ok-row.row) ∷ []) c.loop-slot.invariant
          ∙ sym (rows_more log page slot (Some (rid_at page slot, w.in_ok-row.row)) found)))
      | in_default w ↦
          let none : live_at log (rid_at page slot) ≡ None = sym (shows_none _ _ _ w.in_default.ensures.bytes shows) in
          let found : row_in log page slot ≡ None = ap (option_map (λ cells. (rid_at page slot, cells))) none in
          rw w.rows-is (c.loop-slot.invariant ∙ (sym (append-nil so_far) ∙ sym (rows_more log page slot None found)))
    ]

pub returns-clause-ok : goal.returns-clause-ok
returns-clause-ok c =
    let kept = kept_now _ _ _ c.self.view_is c.self.invariant in
    let below : c.args.page < length c.self.inside.pages.pages = omega (arith, c.requires, kept_count _ _ kept) in
    let same = (c.page-page_now.ensures c.page-page_now.result.now) ∙ kept_page _ _ c.args.page c.page-page_now.result.now kept below in
    let count : c.loop-slot.slot ≡ slots_written c.args.self.now.state.log c.args.page =
    omega (
      arith,
      c.loop-slot-test.false,
      c.slots-slot-end.ensures.count,
      ap (λ (p : PageValue). length p.slots) same,
      length_page_by (slot_of c.args.self.now.state.log) (slots_written c.args.self.now.state.log) c.args.self.now.state.slot_limit c.args.page,
    ) in
    c.loop-slot.invariant ∙ ap (λ n. filter_map (row_in c.args.self.now.state.log c.args.page) (range_with_len 0 n)) count

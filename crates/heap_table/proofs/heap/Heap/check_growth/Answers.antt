use Rattle.std.proofs.Common.{◌≡◌, ◌∙◌, refl, sym, ap, subst}
use Rattle.slotted_page.specs.Page.{PageValue, fits_at}
use Rattle.slotted_page.specs.Slot.{IsRow}
use Rattle.heap_table.specs.HeapState.{page_of}
use Rattle.heap_table.specs.HeapValue.{HeapValue}
use Rattle.heap_table.proofs.KeptFacts.{kept_slot}
use Rattle.heap_table.proofs.Performing.{row_there, page_there, some_row}
use Rattle.heap_table.proofs.heap.Heap.check_growth.Goals as goal
use Rattle.heap_table.proofs.heap.Heap.check_growth.Goals.{After-fits}

-- the page is the one that the log tells of
fits_is : (c : After-fits) → fits_at (page_of c.args.self.now.state c.args.rid.page) c.args.rid.slot c.args.len ≡ c.fits.result
fits_is c =
    let row = some_row c.self.inside.log.records c.args.rid (rw (ap (λ (h : HeapValue). h.state.log) c.self.view_is) c.requires.row) in
    let page = page_there _ c.self.inside.pages c.args.rid row.0 0 c.self.invariant.kept row.1 in
    ap (λ (h : HeapValue). fits_at (page_of h.state c.args.rid.page) c.args.rid.slot c.args.len) (sym c.self.view_is)
    ∙ (ap (λ (q : PageValue). fits_at q c.args.rid.slot c.args.len) (sym page) ∙ sym c.fits.ensures)

pub fits-requires-clause-is_row : goal.fits-requires-clause-is_row
fits-requires-clause-is_row c =
    let row = some_row c.self.inside.log.records c.args.rid (rw (ap (λ (h : HeapValue). h.state.log) c.self.view_is) c.requires.row) in
    subst IsRow (sym (kept_slot _ c.self.inside.pages c.args.rid c.self.invariant.kept)) (row_there c.self.inside.log.records c.args.rid row.0 row.1)

pub returns-then-not-fits : goal.returns-then-not-fits
returns-then-not-fits c = rw (fits_is (goal.at.returns-then-not-fits c).After-fits ∙ c.if-not-fits.true) refl

pub returns : goal.returns
returns c = rw (fits_is (goal.at.returns c).After-fits ∙ c.if-not-fits.false) refl

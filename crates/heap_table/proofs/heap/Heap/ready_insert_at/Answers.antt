use Rattle.std.proofs.Common.{◌∙◌, ap, length, sym, ap}
use Rattle.keybytes.specs.Rows.{row_bytes}
use Rattle.slotted_page.specs.Slot.{IsRowSize}
use Rattle.heap_table.specs.HeapValue.{HeapValue}
use Rattle.heap_table.proofs.KeptFacts.{goes_to, kept_now}
use Rattle.heap_table.proofs.LogRows.{slot_free}
use Rattle.heap_table.proofs.heap.Heap.ready_insert_at.Goals as goal

pub returns-clause-ready : goal.returns-clause-ready
returns-clause-ready c =
    let kept = kept_now _ _ _ c.self.view_is c.self.invariant in
    let sized : IsRowSize (length (row_bytes c.args.row)) = c.in_ok-bytes.ensures.size.1 in
    let place = c.requires.place in
    let goes = goes_to c.args.self.now.state c.self.inside.pages (length (row_bytes c.args.row)) c.args.rid kept sized place in
    let same = c.in_ok-reserve.ensures.same ∙ ap (λ (h : HeapValue). h.state) c.in_ok-bytes.ensures.same in
    record {
      memory = c.in_ok-reserve.ensures.ready;
      place = c.in_ok-reserve.ensures.place;
      old = rw same (sym (slot_free c.args.self.now.state.log c.args.rid goes.empty).0);
      new = c.in_ok-bytes.ensures.size;
      bytes = c.in_ok-bytes.ensures.ok;
      lawful = rw same (c.requires.free, place);
    }

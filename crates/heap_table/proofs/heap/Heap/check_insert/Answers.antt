use Rattle.std.proofs.Common.{◌≡◌, None, Some, length, sym, arith}
use Rattle.std.proofs.lemmas.Result.{IfOk-weaker}
use Rattle.keybytes.specs.Rows.{row_bytes}
use Rattle.slotted_page.specs.Slot.{IsRowSize}
use Rattle.heap_log.specs.Standing.{live_at}
use Rattle.heap_table.specs.HeapState.{insert_place}
use Rattle.heap_table.proofs.KeptFacts.{goes_to, kept_now}
use Rattle.heap_table.proofs.LogRows.{slot_free}
use Rattle.heap_table.proofs.heap.Heap.check_insert.Goals as goal

pub returns-clause-empty : goal.returns-clause-empty
returns-clause-empty c =
    let kept = kept_now _ _ _ c.self.view_is c.self.invariant in
    let sized : IsRowSize (length (row_bytes c.args.row.now)) =
    (omega (arith, c.size.ensures.size, c.size.ensures.some), omega (arith, c.size.ensures.size, c.size.ensures.limit)) in
    IfOk-weaker c.place.result (λ rid. insert_place c.args.self.now.state c.size.result ≡ Some rid) (λ rid. live_at c.args.self.now.state.log rid ≡ None) (λ rid place.
    let size = length (row_bytes c.args.row.now) in
    let goes = goes_to c.args.self.now.state c.self.inside.pages size rid kept sized (rw (sym c.size.ensures.size) place) in
    (slot_free c.args.self.now.state.log rid goes.empty).0) c.place.ensures.ok

use Rattle.std.proofs.Common.{◌∙◌, sym, ap}
use Rattle.heap_log.specs.Standing.{live_at}
use Rattle.heap_table.specs.HeapState.{row_missing}
use Rattle.heap_table.specs.HeapValue.{HeapValue}
use Rattle.heap_table.proofs.KeptFacts.{slot_shows}
use Rattle.heap_table.proofs.Showing.{shows_none, shows_spelled}
use Rattle.heap_table.proofs.heap.Heap.check_there.Goals as goal

pub returns-in-Some : goal.returns-in-Some
returns-in-Some c =
    let spelled = shows_spelled c.self.inside.schema _ _ _ c.in-Some.ensures.bytes (slot_shows _ c.self.inside.pages c.args.rid c.self.invariant.kept) in
    ap row_missing (ap (λ (h : HeapValue). live_at h.state.log c.args.rid) (sym c.self.view_is) ∙ spelled.1.0)

pub returns-in-None : goal.returns-in-None
returns-in-None c =
    ap row_missing (sym (shows_none _ _ _ c.in-None.ensures.bytes (slot_shows _ c.self.inside.pages c.args.rid c.self.invariant.kept)
    ∙ ap (λ (h : HeapValue). live_at h.state.log c.args.rid) c.self.view_is))

use Rattle.std.proofs.Common.{◌∙◌, Some, refl, sym, ap}
use Rattle.std.proofs.lemmas.Result.{err_from_is_err_and}
use Rattle.heap_log.specs.Standing.{live_at}
use Rattle.heap_table.specs.HeapValue.{HeapValue}
use Rattle.heap_table.proofs.KeptFacts.{slot_shows}
use Rattle.heap_table.proofs.Showing.{shows_none, shows_spelled, spelled_memory}
use Rattle.heap_table.proofs.heap.Heap.row_at.Goals as goal

pub returns-in_default-clause-ok : goal.returns-in_default-clause-ok
returns-in_default-clause-ok c =
    shows_none _ _ _ c.in_default.ensures.bytes (slot_shows _ c.self.inside.pages c.args.rid c.self.invariant.kept)
    ∙ ap (λ (h : HeapValue). live_at h.state.log c.args.rid) c.self.view_is

pub returns-in_err-read-clause-there : goal.returns-in_err-read-clause-there
returns-in_err-read-clause-there c =
    let p = err_from_is_err_and c.from_residual.result c.from_residual.ensures.1 in
    let spelled = shows_spelled c.self.inside.schema _ c.in-Some.bytes.now _ c.in-Some.ensures.bytes
    (slot_shows _ c.self.inside.pages c.args.rid c.self.invariant.kept) in
    let live = ap (λ (h : HeapValue). live_at h.state.log c.args.rid) (sym c.self.view_is) ∙ spelled.1.0 in
    rw (p.1, live) refl

pub returns-in_err-read-clause-memory : goal.returns-in_err-read-clause-memory
returns-in_err-read-clause-memory c =
    let p = err_from_is_err_and c.from_residual.result c.from_residual.ensures.1 in
    let spelled = shows_spelled c.self.inside.schema _ c.in-Some.bytes.now _ c.in-Some.ensures.bytes
    (slot_shows _ c.self.inside.pages c.args.rid c.self.invariant.kept) in
    rw (p.1, p.2) (spelled_memory _ _ spelled.0 _ spelled.1.1 c.in_err-read.ensures.refused)

pub returns-clause-ok : goal.returns-clause-ok
returns-clause-ok c =
    let spelled = shows_spelled c.self.inside.schema _ c.in-Some.bytes.now _ c.in-Some.ensures.bytes
    (slot_shows _ c.self.inside.pages c.args.rid c.self.invariant.kept) in
    let live = spelled.1.0 ∙ ap Some (c.in_ok-read.ensures.alone spelled.0 spelled.1.1) in
    sym live ∙ ap (λ (h : HeapValue). live_at h.state.log c.args.rid) c.self.view_is

use Rattle.std.proofs.Common.{Some, ap, sym, ◌∙◌}
use Rattle.std.proofs.lemmas.Result.{err_from_is_err_and}
use Rattle.heap_table.specs.Images.{image_slot}
use Rattle.heap_table.proofs.Showing.{seen_bytes, shows_none, shows_spelled, spelled_memory}
use Rattle.heap_table.proofs.page_image.PageImage.row.Goals as goal

pub returns-in_default-clause-row : goal.returns-in_default-clause-row
returns-in_default-clause-row c = λ cells shows. shows_none _ _ cells (seen_bytes _ _ _ _ _ _ _ c.self.view_is c.deref.ensures c.in_default.ensures.bytes) shows

pub returns-in_err-row-clause-memory : goal.returns-in_err-row-clause-memory
returns-in_err-row-clause-memory c =
    let p = err_from_is_err_and c.from_residual.result c.from_residual.ensures.1 in
    let spelled = shows_spelled c.args.schema.now (image_slot c.args.self.now c.args.slot) c.in-Some.bytes.now c.requires.0
    (seen_bytes _ _ _ _ _ _ _ c.self.view_is c.deref.ensures c.in-Some.ensures.bytes) c.requires.1 in
    rw (p.1, p.2) (spelled_memory _ _ spelled.0 _ spelled.1.1 c.in_err-row.ensures.refused)

pub returns-clause-row : goal.returns-clause-row
returns-clause-row c = λ cells shows.
    let spelled = shows_spelled c.args.schema.now (image_slot c.args.self.now c.args.slot) c.in-Some.bytes.now cells
    (seen_bytes _ _ _ _ _ _ _ c.self.view_is c.deref.ensures c.in-Some.ensures.bytes) shows in
    ap Some (sym (c.in_ok-row.ensures.alone spelled.0 spelled.1.1)) ∙ sym spelled.1.0

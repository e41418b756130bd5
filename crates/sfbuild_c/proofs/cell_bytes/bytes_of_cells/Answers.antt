use Rattle.std.proofs.Common.{◌≡◌, true, List, None, subst}
use Rattle.keybytes.specs.Cells.{fits}
use Rattle.keybytes.specs.Schemas.{columns_refusal}
use Rattle.keybytes.specs.declared.cell.Cell.{Cell}
use Rattle.sfbuild_c.proofs.CellKinds.{columns_refusal-fits}
use Rattle.sfbuild_c.proofs.cell_bytes.bytes_of_cells.Goals as goal

pub returns-in_err-schema-clause-memory : goal.returns-in_err-schema-clause-memory
returns-in_err-schema-clause-memory c =
    let kinds = c.in_ok-kinds_of.field-0.items in
    let fit : fits kinds c.args.cells.items ≡ true =
    subst (λ (cells : List Cell). fits kinds cells ≡ true) c.deref.ensures.value c.in_ok-kinds_of.ensures.ok in
    let accepted : columns_refusal kinds ≡ None = columns_refusal-fits kinds c.args.cells.items fit c.requires in
    cc (accepted, c.in_err-schema.ensures.refused)

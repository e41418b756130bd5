use Rattle.std.proofs.Common.{◌≡◌, length, ap, arith, refl}
use Rattle.std.proofs.lemmas.List.{take_all}
use Rattle.keybytes.specs.Rows.{row_bytes}
use Rattle.keybytes.proofs.Spelling.{length-row_bytes}
use Rattle.keybytes.proofs.row.Row.write_bytes.Goals as goal

-- all cells' bytes are there
whole : (c : goal.After-loop-cell) → c.loop-cell.bytes.items ≡ row_bytes c.self.inside.cells.items
whole c =
    let all = take_all c.loop-cell.cell-index c.deref-cell-items.result.now c.loop-cell-test.false in
    rw (c.loop-cell.invariant, all, c.deref-cell-items.ensures.value) refl

pub returns-clause-some : goal.returns-clause-some
returns-clause-some c =
    let size = length-row_bytes c.self.inside.cells.items c.self.invariant.each in
    omega (arith, ap length (whole c), size.0, c.self.invariant.some)

pub returns-clause-size : goal.returns-clause-size
returns-clause-size c =
    let size = length-row_bytes c.self.inside.cells.items c.self.invariant.each in
    omega (arith, ap length (whole c), size.1, c.self.invariant.few)

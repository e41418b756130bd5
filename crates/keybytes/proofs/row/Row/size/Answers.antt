use Rattle.std.proofs.Common.{◌≡◌, length, ap, arith, refl}
use Rattle.std.proofs.lemmas.List.{take_all}
use Rattle.keybytes.specs.Rows.{row_bytes}
use Rattle.keybytes.proofs.Spelling.{length-row_bytes}
use Rattle.keybytes.proofs.row.Row.size.Goals as goal

-- all cells are counted
whole : (c : goal.After-loop-cell) → c.loop-cell.size ≡ length (row_bytes c.self.inside.cells.items)
whole c =
    let all = take_all c.loop-cell.cell-index c.deref-cell-items.result.now c.loop-cell-test.false in
    rw (c.loop-cell.invariant.so_far, all, c.deref-cell-items.ensures.value) refl

pub overflow_add-size : goal.overflow_add-size
overflow_add-size c =
    omega (
      arith,
      c.loop-cell.invariant.limit,
      c.cell_size-size.ensures.limit,
      c.loop-cell-test.true,
      c.self.invariant.few,
      ap length c.deref-cell-items.ensures.value,
    )

pub returns-clause-some : goal.returns-clause-some
returns-clause-some c = omega (arith, whole c, (length-row_bytes c.self.inside.cells.items c.self.invariant.each).0, c.self.invariant.some)

pub returns-clause-limit : goal.returns-clause-limit
returns-clause-limit c = omega (arith, whole c, (length-row_bytes c.self.inside.cells.items c.self.invariant.each).1, c.self.invariant.few)

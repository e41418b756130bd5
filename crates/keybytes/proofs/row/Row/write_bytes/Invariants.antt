use Rattle.std.proofs.Common.{◌≡◌, take}
use Rattle.keybytes.specs.Rows.{row_bytes}
use Rattle.keybytes.proofs.row.Row.write_bytes.Given as goal

abbrev pub invariant-loop-cell : goal.invariant-loop-cell
invariant-loop-cell l = l.bytes.items ≡ row_bytes (take l.cell-index l.cell-items)

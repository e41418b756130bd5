use Rattle.std.proofs.Common.{◌≡◌, ◌≤◌, ◌*◌, take, length}
use Rattle.keybytes.specs.Rows.{row_bytes}
use Rattle.keybytes.proofs.row.Row.size.Given as goal

abbrev pub invariant-loop-cell : goal.invariant-loop-cell
invariant-loop-cell l = record { so_far : l.size ≡ length (row_bytes (take l.cell-index l.cell-items)); limit : l.size ≤ 102 * l.cell-index }

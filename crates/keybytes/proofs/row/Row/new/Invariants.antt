use Rattle.std.proofs.Common.{take}
use Rattle.std.specs.List.{All}
use Rattle.keybytes.specs.Cells.{IsCell}
use Rattle.keybytes.proofs.row.Row.new.Given as goal

abbrev pub invariant-loop-cell : goal.invariant-loop-cell
invariant-loop-cell l = All IsCell (take l.cell-index l.cell-items)

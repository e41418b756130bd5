use Rattle.std.proofs.Common.{◌≡◌, drop}
use Rattle.keybytes.specs.Cells.{fits}
use Rattle.keybytes.proofs.row.cells_fit.Given as goal

abbrev pub invariant-loop-i : goal.invariant-loop-i
invariant-loop-i l = fits l.kinds l.cells ≡ fits (drop l.i l.kinds) (drop l.i l.cells)

use Rattle.std.proofs.Common.{◌≡◌, true, take}
use Rattle.keybytes.specs.Cells.{fits}
use Rattle.sfbuild_c.proofs.cell_bytes.kinds_of.Given as goal

abbrev pub invariant-loop-cell : goal.invariant-loop-cell
invariant-loop-cell l = fits l.kinds.items (take l.cell-index l.cells) ≡ true

use Rattle.std.proofs.Common.{List, drop}
use Rattle.keybytes.specs.declared.cell.Cell.{Cell}
use Rattle.keybytes.proofs.Reading.{HasRead}
use Rattle.keybytes.proofs.row.check_spelling.Given as goal

abbrev pub invariant-loop-kind : goal.invariant-loop-kind
invariant-loop-kind l = (cells : List Cell) × HasRead l.kinds l.bytes cells (drop l.kind-index l.kinds) l.rest

use Rattle.std.proofs.Common.{drop}
use Rattle.keybytes.proofs.Reading.{HasRead}
use Rattle.keybytes.proofs.row.Row.read_cells.Given as goal

abbrev pub invariant-loop-kind : goal.invariant-loop-kind
invariant-loop-kind l = HasRead l.kinds l.bytes l.cells.items (drop l.kind-index l.kinds) l.rest

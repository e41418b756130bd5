use Rattle.std.proofs.Common.{List, drop}
use Rattle.keybytes.specs.Keys.{HasKey, key_kinds}
use Rattle.keybytes.specs.declared.cell.Cell.{Cell}
use Rattle.keybytes.proofs.KeyReads.{ColumnsLeft}
use Rattle.keybytes.proofs.key_spec.KeySpec.cells.Given as goal

abbrev pub invariant-loop-column : goal.invariant-loop-column
invariant-loop-column l =
    (columns : List Cell) → HasKey l.self l.key columns
    → ColumnsLeft columns l.cells.items (drop l.column-index l.self.columns) (drop l.column-index (key_kinds l.self)) l.bytes l.at

use Rattle.std.proofs.Common.{◌≡◌, map, take}
use Rattle.csv_index.proofs.table.column.schema.Given as goal

abbrev pub invariant-loop-column : goal.invariant-loop-column
invariant-loop-column l = l.kinds.items ≡ map (λ column. column.kind) (take l.column-index l.columns)

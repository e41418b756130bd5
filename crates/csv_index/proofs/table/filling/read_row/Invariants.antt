use Rattle.std.proofs.Common.{take}
use Rattle.std.specs.List.{AllZip}
use Rattle.csv.specs.Records.{fields_of}
use Rattle.csv_index.specs.Fillings.{IsCellAt}
use Rattle.csv_index.proofs.table.filling.read_row.Given as goal

abbrev pub invariant-loop-place : goal.invariant-loop-place
invariant-loop-place l = AllZip (IsCellAt (fields_of l.«record»)) (take l.place l.layout.sources.items) l.cells.items

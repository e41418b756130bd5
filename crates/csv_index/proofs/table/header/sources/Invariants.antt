use Rattle.std.proofs.Common.{take}
use Rattle.std.specs.List.{AllZip}
use Rattle.csv.specs.Records.{fields_of}
use Rattle.csv_index.specs.Headers.{IsSourceOf}
use Rattle.csv_index.proofs.table.header.sources.Given as goal

abbrev pub invariant-loop-column : goal.invariant-loop-column
invariant-loop-column l = AllZip (IsSourceOf (fields_of l.header)) (take l.column-index l.columns) l.sources.items

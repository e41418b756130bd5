use Rattle.csv.specs.Records.{fields_of}
use Rattle.csv_index.specs.Headers.{IsAbsent}
use Rattle.csv_index.proofs.table.header.place_from.Given as goal

abbrev pub invariant-loop-place : goal.invariant-loop-place
invariant-loop-place l = IsAbsent (fields_of l.header) l.name l.from l.place

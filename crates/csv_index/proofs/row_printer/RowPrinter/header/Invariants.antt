use Rattle.std.proofs.Common.{◌≡◌, take}
use Rattle.csv.specs.Records.{fields_of}
use Rattle.csv_index.specs.Printed.{header_fields}
use Rattle.csv_index.proofs.row_printer.RowPrinter.header.Given as goal

abbrev pub invariant-loop-column : goal.invariant-loop-column
invariant-loop-column g l = record {
  fields : fields_of l.self.fields ≡ header_fields (take l.column-index l.columns);
  writer : l.self.writer ≡ l.fn.self.writer;
}

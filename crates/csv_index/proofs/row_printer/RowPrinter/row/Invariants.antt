use Rattle.std.proofs.Common.{◌≡◌, take}
use Rattle.csv.specs.Records.{fields_of}
use Rattle.csv_index.specs.Printed.{row_fields}
use Rattle.csv_index.proofs.row_printer.RowPrinter.row.Given as goal

abbrev pub invariant-loop-cell : goal.invariant-loop-cell
invariant-loop-cell g l = record {
  fields : fields_of l.self.fields ≡ row_fields l.fn.line (take l.cell-index l.cells);
  writer : l.self.writer ≡ l.fn.self.writer;
}

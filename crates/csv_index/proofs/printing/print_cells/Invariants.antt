use Rattle.csv_index.specs.Printed.{IsBetween}
use Rattle.csv_index.proofs.printing.print_cells.Given as goal

abbrev pub invariant-loop-column : goal.invariant-loop-column
invariant-loop-column g l = IsBetween l.printer.writer

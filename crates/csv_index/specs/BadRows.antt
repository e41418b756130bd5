-- Records that are no rows.
use Rattle.std.specs.Prelude.{◌≢◌, ⊤}
use Rattle.csv_index.specs.declared.table.bad_row.BadRow.{BadRow}
use Rattle.csv_index.specs.declared.table.bad_row.BadRow.TheVariants.{Fields, Cell, Refused}
use Rattle.csv_index.specs.declared.table.cell_fault.CellFault.TheVariants.{Memory}

-- the record itself is at fault, and neither memory nor a full table
abbrev pub IsOfRecord : BadRow → Type 0
IsOfRecord (Fields found wanted) = ⊤
IsOfRecord (Cell place fault) = fault ≢ Memory
IsOfRecord (Refused fault) = ⊥

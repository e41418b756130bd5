-- Conditions of partial indexes: which rows meet one, and which conditions a table may have.
use Rattle.std.specs.Prelude.{ℕ, nat_lt, Bool, true, false, not, ◌&&◌, List, length, slice_index_or, Option, Some, None, if◌then◌else◌}
use Rattle.std.specs.Ordering.{eq_by_cmp, is_lt}
use Rattle.keybytes.specs.Cells.{cell_cmp, fits_kind, is_short}
use Rattle.keybytes.specs.declared.cell.Cell.{Cell}
use Rattle.keybytes.specs.declared.cell.Cell.TheVariants.{Null, Int, Text, Flag}
use Rattle.keybytes.specs.declared.fault.Fault.{Fault}
use Rattle.keybytes.specs.declared.fault.Fault.TheVariants.{BadColumn}
use Rattle.keybytes.specs.declared.kind.Kind.{Kind}
use Rattle.keybytes.specs.declared.kind.Kind.TheVariants.{Int as IntKind}
use Rattle.keybytes.specs.declared.when.When.{When}
use Rattle.keybytes.specs.declared.when.When.TheVariants.{Equal, Less, IsNull}

abbrev pub is_null : Cell → Bool
is_null Null = true
is_null (Int number) = false
is_null (Text bytes) = false
is_null (Flag flag) = false

-- the row's cell in a column
abbrev pub cell_in : ℕ → List Cell → Cell
cell_in column row = slice_index_or row column Null

-- whether a row meets the condition: its cell in the column is the given one; is not Null and comes before the given one; is Null
abbrev pub meets : When → List Cell → Bool
meets (Equal column cell) row = eq_by_cmp cell_cmp (cell_in column row) cell
meets (Less column bound) row = not (is_null (cell_in column row)) && is_lt (cell_cmp (cell_in column row) bound)
meets (IsNull column) row = is_null (cell_in column row)

-- whether an index takes the row: one without a condition takes each
abbrev pub takes : Option When → List Cell → Bool
takes None row = true
takes (Some condition) row = meets condition row

-- whether the column is there, and the cell is one that its rows may hold, other than Null
abbrev pub may_be_asked : List Kind → ℕ → Cell → Bool
may_be_asked kinds column cell =
    nat_lt column (length kinds) && (not (is_null cell) && (fits_kind (slice_index_or kinds column IntKind) cell && is_short cell))

-- whether rows of a table with these kinds may be asked for the condition
abbrev pub is_condition : List Kind → When → Bool
is_condition kinds (Equal column cell) = may_be_asked kinds column cell
is_condition kinds (Less column bound) = may_be_asked kinds column bound
is_condition kinds (IsNull column) = nat_lt column (length kinds)

-- why an index of a table with these kinds may not have the condition
abbrev pub condition_refusal : List Kind → When → Option Fault
condition_refusal kinds condition = if is_condition kinds condition then None else Some BadColumn

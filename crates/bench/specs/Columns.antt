-- The columns of a table that is measured, and the condition of its indexes.
use Rattle.std.specs.Prelude.{ℕ, ◌+◌, ◌≤◌, false, if◌then◌else◌, List, map, slice_index_or}
use Rattle.keybytes.specs.declared.cell.Cell.TheVariants.{Int as IntCell}
use Rattle.keybytes.specs.declared.key_col.KeyCol.{KeyCol}
use Rattle.keybytes.specs.declared.kind.Kind.{Kind}
use Rattle.keybytes.specs.declared.kind.Kind.TheVariants as kind
use Rattle.keybytes.specs.declared.when.When.{When}
use Rattle.keybytes.specs.declared.when.When.TheVariants as when
use Rattle.bench.specs.declared.column.Column.{Column}
use Rattle.bench.specs.declared.condition.Condition.{Condition}
use Rattle.bench.specs.declared.values.Values.{Values}
use Rattle.bench.specs.declared.values.Values.TheVariants.{Int, IntBelow, Text}

-- there is a number below their limit; a row may hold the texts, of which none is empty, and no more of them is the same than there is
abbrev pub AreMeasured : Values → Type 0
AreMeasured Int = Unit {0}
AreMeasured (IntBelow limit) = 1 ≤ limit
AreMeasured (Text length front) = (1 ≤ length) × (length ≤ 100) × (front ≤ length)

-- what cells they are
abbrev pub kind_of : Values → Kind
kind_of Int = kind.Int
kind_of (IntBelow limit) = kind.Int
kind_of (Text length front) = kind.Text

-- how many bytes of a key are such a cell's
abbrev pub key_size : Values → ℕ
key_size Int = 9
key_size (IntBelow limit) = 9
key_size (Text length front) = length + 3

-- the column at a place of the table, as an index on it has it
abbrev pub key_column : List Column → ℕ → KeyCol
key_column columns place = record { column = place; descending = slice_index_or (map (λ column. column.descending) columns) place false }

-- the condition, as key specifications have it
abbrev pub condition_of : Condition → When
condition_of condition =
    if condition.is_below then when.Less condition.column (IntCell condition.number) else when.Equal condition.column (IntCell condition.number)

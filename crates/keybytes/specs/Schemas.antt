-- The columns of a table.
use Rattle.std.specs.Prelude.{Bool, true, false, ◌&&◌, nat_lt, nat_le, List, length, Option, Some, None, if◌then◌else◌}
use Rattle.std.specs.Cmp.Lexicographic.{pointwise}
use Rattle.keybytes.specs.declared.kind.Kind.{Kind}
use Rattle.keybytes.specs.declared.kind.Kind.TheVariants.{Int, Text, Flag}
use Rattle.keybytes.specs.declared.fault.Fault.{Fault}
use Rattle.keybytes.specs.declared.fault.Fault.TheVariants.{BadColumn}

-- a table has 1 to 12 columns
abbrev pub are_columns : List Kind → Bool
are_columns kinds = nat_lt 0 (length kinds) && nat_le (length kinds) 12

-- why these are not the columns of a table
abbrev pub columns_refusal : List Kind → Option Fault
columns_refusal kinds = if are_columns kinds then None else Some BadColumn

-- whether these are one kind
abbrev pub same_kind : Kind → Kind → Bool
same_kind Int Int = true
same_kind Text Text = true
same_kind Flag Flag = true
same_kind a b = false

-- whether these are the same columns, in the same order
unfoldable pub same_kinds : List Kind → List Kind → Bool
same_kinds a b = pointwise same_kind a b

-- What was read of a script so far.
use Rattle.std.specs.Prelude.{◌≡◌, ℕ, List, [], ◌∷◌, Option, Some, None}
use Rattle.script.specs.Scripts.{commands_from, tables_from}
use Rattle.script.specs.declared.line.Line.{Line}
use Rattle.script.specs.declared.numbered_command.NumberedCommand.{NumberedCommand}
use Rattle.script.specs.declared.table.Table.{Table}

pub record DraftValue : Type 0 where
  -- the record `table` and its number
  pub table : Option (ℕ × Table)
  -- the commands behind it
  pub commands : List NumberedCommand

-- the table that a draft has, as a list
abbrev pub listed : Option (ℕ × Table) → List (ℕ × Table)
listed None = []
listed (Some table) = table ∷ []

-- the draft has the table of the lines and their commands
abbrev pub IsDraft : DraftValue → List Line → Type 0
IsDraft draft lines = (tables_from 1 lines ≡ listed draft.table) × (draft.commands ≡ commands_from 1 lines)

-- Which script a text is, and which of its records is the first bad one.
use Rattle.std.specs.Prelude.{◌≡◌, ◌⊎◌, ℕ, ◌+◌, List, [], ◌∷◌, Option, Some, None}
use Rattle.script.specs.Grammars.{AreAllGood, Grammar, IsFirstBadIn, SpellsAll}
use Rattle.script.specs.Lines.{SpellLine, name_of}
use Rattle.script.specs.Misfits.{TellsMisfit}
use Rattle.script.specs.Shapes.{HasShape}
use Rattle.script.specs.declared.command_name.CommandName.{CommandName}
use Rattle.script.specs.declared.command_name.CommandName.TheVariants as name
use Rattle.script.specs.declared.explanation.Explanation.{Explanation}
use Rattle.script.specs.declared.explanation.Explanation.TheVariants.{Misfit as IsMisfit, Misplaced, Missing, NoTable, NotText}
use Rattle.script.specs.declared.line.Line.{Line}
use Rattle.script.specs.declared.line.Line.TheVariants.{PassedOver, Table as TableLine, Command as CommandLine}
use Rattle.script.specs.declared.numbered_command.NumberedCommand.{NumberedCommand}
use Rattle.script.specs.declared.race.name.RaceName.{RaceName}
use Rattle.script.specs.declared.race.name.RaceName.TheVariants as race_name
use Rattle.script.specs.declared.script.Script.{Script}
use Rattle.script.specs.declared.table.Table.{Table}

-- the name of a line's record; one that is passed over has none
abbrev pub name_of_line : Line → Option CommandName
name_of_line PassedOver = None
name_of_line (TableLine table) = Some name.Table
name_of_line (CommandLine command) = Some (name_of command)

-- only a table may be misplaced
abbrev pub told_as : Line → Option RaceName
told_as PassedOver = None
told_as (TableLine table) = Some race_name.Table
told_as (CommandLine command) = None

-- a table comes first, so that there is only one, and anything else anywhere
abbrev pub MayCome : List CommandName → CommandName → Type 0
MayCome before one = one ≡ name.Table → before ≡ []

-- one of the names is that of a table
abbrev pub HasTable : List CommandName → Type 0
HasTable [] = ⊥
HasTable (one ∷ more) = (one ≡ name.Table) ⊎ HasTable more

-- a table is missing
abbrev pub TellsNoTable : List CommandName → Explanation → Type 0
TellsNoTable some NoTable = ¬ (HasTable some)
TellsNoTable some NotText = ⊥
TellsNoTable some (IsMisfit misfit) = ⊥
TellsNoTable some (Misplaced name) = ⊥
TellsNoTable some (Missing name) = ⊥

-- scripts that are replayed
abbrev pub script_grammar : Grammar CommandName Line
script_grammar = record {
  spells = SpellLine;
  has_shape = HasShape;
  tells_misfit = TellsMisfit;
  name_of = name_of_line;
  told_as = told_as;
  may_come = MayCome;
  are_whole = HasTable;
  tells_missing = TellsNoTable;
}

-- the tables among the lines, each with its number, where the first line has that number
abbrev pub tables_from : ℕ → List Line → List (ℕ × Table)
tables_from number [] = []
tables_from number (PassedOver ∷ lines) = tables_from (number + 1) lines
tables_from number (TableLine table ∷ lines) = (number, table) ∷ tables_from (number + 1) lines
tables_from number (CommandLine command ∷ lines) = tables_from (number + 1) lines

-- the commands among the lines, each with its number
abbrev pub commands_from : ℕ → List Line → List NumberedCommand
commands_from number [] = []
commands_from number (PassedOver ∷ lines) = commands_from (number + 1) lines
commands_from number (TableLine table ∷ lines) = commands_from (number + 1) lines
commands_from number (CommandLine command ∷ lines) = record { number = number; command = command } ∷ commands_from (number + 1) lines

-- the script has the one table of the lines, and their commands
abbrev pub IsScript : List Line → Script → Type 0
IsScript lines script = (tables_from 1 lines ≡ (script.table_number, script.table) ∷ []) × (script.commands.items ≡ commands_from 1 lines)

-- every record of the text is good, and together they are the script
abbrev pub SpellsScript : List ℕ → Script → Type 0
SpellsScript text script = SpellsAll script_grammar IsScript text script

-- the records before the one of that number are good, and it is bad
abbrev pub IsFirstBad : List ℕ → ℕ → Type 0
IsFirstBad text number = IsFirstBadIn script_grammar text number

-- so many records are all of the text, and all are good
abbrev pub AreGood : List ℕ → ℕ → Type 0
AreGood text count = AreAllGood script_grammar text count

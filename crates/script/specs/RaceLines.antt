-- What the fields of a race script's record ask for.
use Rattle.std.specs.Prelude.{◌≡◌, ℕ, List, [], ◌∷◌, codes}
use Rattle.std.specs.List.{AllZip}
use Rattle.script.specs.Fields.{SpellEach, SpellsCell, SpellsSession, SpellsSpools}
use Rattle.script.specs.Lines.{AtFirst, SpellBuild, SpellLine, SpellTable}
use Rattle.script.specs.Shapes.{IsRemark}
use Rattle.script.specs.declared.command.Command.{Command}
use Rattle.script.specs.declared.command.Command.TheVariants as command
use Rattle.script.specs.declared.line.Line.TheVariants as line
use Rattle.script.specs.declared.race.line.RaceLine.{RaceLine}
use Rattle.script.specs.declared.race.line.RaceLine.TheVariants.{PassedOver, Table, Row, Spools, Build as BuildLine, Go, In}
use Rattle.script.specs.declared.race.name.RaceName.{RaceName}
use Rattle.script.specs.declared.race.name.RaceName.TheVariants as name
use Rattle.script.specs.declared.race.session_command.SessionCommand.{SessionCommand}
use Rattle.script.specs.declared.race.session_command.SessionCommand.TheVariants.{Begin, Insert, Update, Delete, Undo, Commit}

-- how the names of records are written
abbrev pub race_written : RaceName → List ℕ
race_written name.Table = codes "table"
race_written name.Row = codes "row"
race_written name.Spools = codes "spools"
race_written name.Build = codes "build"
race_written name.Go = codes "go"
race_written name.In = codes "in"

-- the same command in a script that is replayed
abbrev pub as_command : SessionCommand → Command
as_command (Begin label) = command.Begin label
as_command (Insert label cells) = command.Insert label cells
as_command (Update label rid cells) = command.Update label rid cells
as_command (Delete label rid) = command.Delete label rid
as_command (Undo label) = command.Undo label
as_command (Commit label) = command.Commit label

-- the number of a session, and a command that is spelled as in a script that is replayed
abbrev pub SpellIn : List (List ℕ) → ℕ → SessionCommand → Type 0
SpellIn fields session command = AtFirst (λ number more. SpellsSession number session × SpellLine more (line.Command (as_command command))) fields

-- the fields ask for the line: they are a remark, or a name and what stands behind it
abbrev pub SpellRaceLine : List (List ℕ) → RaceLine → Type 0
SpellRaceLine fields PassedOver = AtFirst (λ first rest. IsRemark first) fields
SpellRaceLine fields (Table table) = AtFirst (λ first parts. (first ≡ race_written name.Table) × SpellTable parts table) fields
SpellRaceLine fields (Row cells) = AtFirst (λ first parts. (first ≡ race_written name.Row) × SpellEach SpellsCell parts cells.items) fields
SpellRaceLine fields (Spools choice) = AtFirst (λ first parts. (first ≡ race_written name.Spools) × AllZip SpellsSpools parts (choice ∷ [])) fields
SpellRaceLine fields (BuildLine build) = AtFirst (λ first parts. (first ≡ race_written name.Build) × SpellBuild parts build) fields
SpellRaceLine fields Go = AtFirst (λ first parts. (first ≡ race_written name.Go) × (parts ≡ [])) fields
SpellRaceLine fields (In session command) = AtFirst (λ first parts. (first ≡ race_written name.In) × SpellIn parts session command) fields

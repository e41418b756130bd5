-- Which race script a text is, and which of its records is the first bad one.
use Rattle.std.specs.Prelude.{◌≡◌, ℕ, false, List, [], ◌∷◌}
use Rattle.std.specs.Global.{Vec}
use Rattle.keybytes.specs.declared.cell.Cell.{Cell}
use Rattle.script.specs.Grammars.{AreAllGood, Grammar, IsFirstBadIn, SpellsAll}
use Rattle.script.specs.RaceLines.{SpellRaceLine}
use Rattle.script.specs.RaceMisfits.{TellsRaceMisfit}
use Rattle.script.specs.RaceOrder.{AreWhole, MayCome, gathered, has, name_of_line}
use Rattle.script.specs.RaceShapes.{HasRaceShape}
use Rattle.script.specs.declared.explanation.Explanation.{Explanation}
use Rattle.script.specs.declared.explanation.Explanation.TheVariants.{Misfit as IsMisfit, Misplaced, Missing, NoTable, NotText}
use Rattle.script.specs.declared.race.build.Build.{Build}
use Rattle.script.specs.declared.race.line.RaceLine.{RaceLine}
use Rattle.script.specs.declared.race.line.RaceLine.TheVariants.{PassedOver, Table as TableLine, Row, Spools, Build as BuildLine, Go, In}
use Rattle.script.specs.declared.race.name.RaceName.{RaceName}
use Rattle.script.specs.declared.race.script.RaceScript.{RaceScript}
use Rattle.script.specs.declared.race.session_step.SessionStep.{SessionStep}
use Rattle.run_spool.specs.declared.choice.SpoolChoice.{SpoolChoice}
use Rattle.run_spool.specs.declared.choice.SpoolChoice.TheVariants.{Plain}
use Rattle.script.specs.declared.table.Table.{Table}

-- something is missing: no record has that name
abbrev pub TellsMissing : List RaceName → Explanation → Type 0
TellsMissing some (Missing name) = has name some ≡ false
TellsMissing some NotText = ⊥
TellsMissing some (IsMisfit misfit) = ⊥
TellsMissing some (Misplaced name) = ⊥
TellsMissing some NoTable = ⊥

-- scripts of races
abbrev pub race_grammar : Grammar RaceName RaceLine
race_grammar = record {
  spells = SpellRaceLine;
  has_shape = HasRaceShape;
  tells_misfit = TellsRaceMisfit;
  name_of = name_of_line;
  told_as = name_of_line;
  may_come = MayCome;
  are_whole = AreWhole;
  tells_missing = TellsMissing;
}

-- the table that a line is, with its number
abbrev pub table_at : ℕ → RaceLine → List (ℕ × Table)
table_at number (TableLine table) = (number, table) ∷ []
table_at number PassedOver = []
table_at number (Row cells) = []
table_at number (Spools choice) = []
table_at number (BuildLine build) = []
table_at number Go = []
table_at number (In session command) = []

-- the row that a line is
abbrev pub row_at : ℕ → RaceLine → List (Vec Cell)
row_at number (Row cells) = cells ∷ []
row_at number PassedOver = []
row_at number (TableLine table) = []
row_at number (Spools choice) = []
row_at number (BuildLine build) = []
row_at number Go = []
row_at number (In session command) = []

-- the kind of spools that a line is
abbrev pub choice_at : ℕ → RaceLine → List SpoolChoice
choice_at number (Spools choice) = choice ∷ []
choice_at number PassedOver = []
choice_at number (TableLine table) = []
choice_at number (Row cells) = []
choice_at number (BuildLine build) = []
choice_at number Go = []
choice_at number (In session command) = []

-- the build that a line is
abbrev pub build_at : ℕ → RaceLine → List Build
build_at number (BuildLine build) = build ∷ []
build_at number PassedOver = []
build_at number (TableLine table) = []
build_at number (Row cells) = []
build_at number (Spools choice) = []
build_at number Go = []
build_at number (In session command) = []

-- the step of a session that a line is, with its number
abbrev pub step_at : ℕ → RaceLine → List SessionStep
step_at number (In session command) = record { number = number; session = session; command = command } ∷ []
step_at number PassedOver = []
step_at number (TableLine table) = []
step_at number (Row cells) = []
step_at number (Spools choice) = []
step_at number (BuildLine build) = []
step_at number Go = []

-- the kind of the record `spools`, or plain where there is none
abbrev pub choice_of : List SpoolChoice → SpoolChoice
choice_of [] = Plain
choice_of (choice ∷ more) = choice

-- the script has the one table of the lines, their rows, their kind of spools, their one build and what sessions do
pub record IsRaceScript (lines : List RaceLine) (script : RaceScript) : Type 0 where
  pub table : gathered table_at 1 lines ≡ (script.table_number, script.table) ∷ []
  pub rows : gathered row_at 1 lines ≡ script.rows.items
  pub choice : choice_of (gathered choice_at 1 lines) ≡ script.choice
  pub build : gathered build_at 1 lines ≡ script.build ∷ []
  pub steps : gathered step_at 1 lines ≡ script.steps.items

-- every record of the text is good, and together they are the script
abbrev pub SpellsRaceScript : List ℕ → RaceScript → Type 0
SpellsRaceScript text script = SpellsAll race_grammar IsRaceScript text script

-- the records before the one of that number are good, and it is bad
abbrev pub IsFirstBadOfRace : List ℕ → ℕ → Type 0
IsFirstBadOfRace text number = IsFirstBadIn race_grammar text number

-- so many records are all of the text, and all are good
abbrev pub AreGoodOfRace : List ℕ → ℕ → Type 0
AreGoodOfRace text count = AreAllGood race_grammar text count

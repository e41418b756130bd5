-- Which fields a race script's record has.
use Rattle.std.specs.Prelude.{◌≡◌, ℕ, true, List, [], ◌∷◌, Option, Some, None, ◌⊎◌}
use Rattle.script.specs.Lines.{AtFirst}
use Rattle.script.specs.RaceLines.{race_written}
use Rattle.script.specs.Shapes.{Fit, Fits, IsRemark, IsSpelled, is_of_session, parts_of, repeated_of, written}
use Rattle.script.specs.declared.command_name.CommandName.{CommandName}
use Rattle.script.specs.declared.command_name.CommandName.TheVariants as command
use Rattle.script.specs.declared.part.Part.{Part}
use Rattle.script.specs.declared.part.Part.TheVariants as part
use Rattle.script.specs.declared.race.name.RaceName.{RaceName}
use Rattle.script.specs.declared.race.name.RaceName.TheVariants.{Table, Row, Spools, Build, Go, In}

-- what the fields behind a name spell, one part each; of `in`, up to the name of the session's command
abbrev pub race_parts : RaceName → List Part
race_parts Table = parts_of command.Table
race_parts Row = parts_of command.Row
race_parts Spools = parts_of command.Spools
race_parts Build = part.Number ∷ part.Dealing ∷ part.Spec ∷ []
race_parts Go = []
race_parts In = part.Session ∷ part.SessionCommand ∷ []

-- what any further fields spell, where there may be some
abbrev pub race_repeated : RaceName → Option Part
race_repeated Table = repeated_of command.Table
race_repeated Row = repeated_of command.Row
race_repeated Spools = repeated_of command.Spools
race_repeated Build = Some part.Spec
race_repeated Go = None
race_repeated In = None

-- the fields are the name of a session's command, and those that this command wants
abbrev pub FitCommand : List (List ℕ) → Type 0
FitCommand fields =
    AtFirst (λ first parts. (name : CommandName) × (is_of_session name ≡ true) × (first ≡ written name) × Fits name parts) fields

-- the fields behind a name are those that it wants
abbrev pub FitsRace : RaceName → List (List ℕ) → Type 0
FitsRace Table fields = Fit (race_parts Table) (race_repeated Table) fields
FitsRace Row fields = Fit (race_parts Row) (race_repeated Row) fields
FitsRace Spools fields = Fit (race_parts Spools) (race_repeated Spools) fields
FitsRace Build fields = Fit (race_parts Build) (race_repeated Build) fields
FitsRace Go fields = Fit (race_parts Go) (race_repeated Go) fields
FitsRace In fields = AtFirst (λ session more. IsSpelled part.Session session × FitCommand more) fields

-- the fields are a remark, or a name and fields that fit it
abbrev pub HasRaceShape : List (List ℕ) → Type 0
HasRaceShape [] = ⊥
HasRaceShape (first ∷ fields) = IsRemark first ⊎ ((name : RaceName) × (first ≡ race_written name) × FitsRace name fields)

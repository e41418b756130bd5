-- What is wrong with the fields of a race script's record.
use Rattle.std.specs.Prelude.{◌≡◌, ℕ, true, List, string_bytes}
use Rattle.script.specs.Lines.{AtFirst}
use Rattle.script.specs.Misfits.{TellsUnfit, first_of}
use Rattle.script.specs.RaceLines.{race_written}
use Rattle.script.specs.RaceShapes.{race_parts, race_repeated}
use Rattle.script.specs.Shapes.{IsRemark, IsSpelled, is_of_session, parts_of, repeated_of, written}
use Rattle.script.specs.declared.command_name.CommandName.{CommandName}
use Rattle.script.specs.declared.misfit.Misfit.{Misfit}
use Rattle.script.specs.declared.misfit.Misfit.TheVariants.{Behind, BehindInRace, InSession, UnknownCommand, UnknownInRace}
use Rattle.script.specs.declared.part.Part.TheVariants as part
use Rattle.script.specs.declared.race.name.RaceName.{RaceName}
use Rattle.script.specs.declared.race.name.RaceName.TheVariants.{Table, Row, Spools, Build, Go, In}
use Rattle.script.specs.declared.unfit.Unfit.{Unfit}
use Rattle.script.specs.declared.unfit.Unfit.TheVariants.{TooFew, TooMany, Misspelled}

-- the text is neither the name of a record nor a remark
abbrev pub IsUnknownInRace : List ℕ → Type 0
IsUnknownInRace text = ((name : RaceName) → ¬ (text ≡ race_written name)) × ¬ (IsRemark text)

-- in which way the fields behind a name do not fit it; behind `in`, those up to the name of the session's command
abbrev pub TellsBehind : RaceName → List (List ℕ) → Unfit → Type 0
TellsBehind Table fields unfit = TellsUnfit (race_parts Table) (race_repeated Table) 2 fields unfit
TellsBehind Row fields unfit = TellsUnfit (race_parts Row) (race_repeated Row) 2 fields unfit
TellsBehind Spools fields unfit = TellsUnfit (race_parts Spools) (race_repeated Spools) 2 fields unfit
TellsBehind Build fields unfit = TellsUnfit (race_parts Build) (race_repeated Build) 2 fields unfit
TellsBehind Go fields unfit = TellsUnfit (race_parts Go) (race_repeated Go) 2 fields unfit
TellsBehind In fields TooMany = ⊥
TellsBehind In fields TooFew = TellsUnfit (race_parts In) (race_repeated In) 2 fields TooFew
TellsBehind In fields (Misspelled number text part) = TellsUnfit (race_parts In) (race_repeated In) 2 fields (Misspelled number text part)

-- a session and the name of its command stand first, and the fields behind them do not fit the command
abbrev pub TellsInSession : List (List ℕ) → CommandName → Unfit → Type 0
TellsInSession fields name unfit =
    AtFirst (λ session more. IsSpelled part.Session session
    × AtFirst (λ command rest. (is_of_session name ≡ true) × (command ≡ written name) × TellsUnfit (parts_of name) (repeated_of name) 4 rest unfit) more) fields

-- what is wrong with the fields behind a name
abbrev pub TellsRaceMisfitBehind : RaceName → List (List ℕ) → Misfit → Type 0
TellsRaceMisfitBehind name fields (BehindInRace named unfit) = (named ≡ name) × TellsBehind name fields unfit
TellsRaceMisfitBehind name fields (InSession command unfit) = (name ≡ In) × TellsInSession fields command unfit
TellsRaceMisfitBehind name fields (UnknownCommand text) = ⊥
TellsRaceMisfitBehind name fields (UnknownInRace text) = ⊥
TellsRaceMisfitBehind name fields (Behind named unfit) = ⊥

-- the first field is a name, and what is wrong stands behind it
abbrev pub TellsRaceMisfitNamed : List (List ℕ) → Misfit → Type 0
TellsRaceMisfitNamed fields misfit =
    AtFirst (λ first parts. (name : RaceName) × (first ≡ race_written name) × TellsRaceMisfitBehind name parts misfit) fields

-- what is wrong with the fields of a record
abbrev pub TellsRaceMisfit : List (List ℕ) → Misfit → Type 0
TellsRaceMisfit fields (UnknownInRace text) = (string_bytes text ≡ first_of fields) × IsUnknownInRace (first_of fields)
TellsRaceMisfit fields (BehindInRace name unfit) = TellsRaceMisfitNamed fields (BehindInRace name unfit)
TellsRaceMisfit fields (InSession name unfit) = TellsRaceMisfitNamed fields (InSession name unfit)
TellsRaceMisfit fields (UnknownCommand text) = ⊥
TellsRaceMisfit fields (Behind name unfit) = ⊥

-- Fields that spell a line of a race script have the shape of one.
use Rattle.std.proofs.Common.{◌≡◌, ◌==◌, ℕ, true, false, List, [], ◌∷◌, slice_index, codes, if◌then◌else◌, Option, Some, None, inl, inr, ap, refl, sym, ◌∙◌}
use Rattle.std.specs.Str.{bytes_eq}
use Rattle.script.specs.Fields.{SpellsCell, SpellsSpec}
use Rattle.script.specs.Grammars.{IsClear}
use Rattle.script.specs.Lines.{SpellBuild, name_of}
use Rattle.script.specs.RaceLines.{SpellIn, SpellRaceLine, as_command, race_written}
use Rattle.script.specs.RaceOrder.{name_of_line}
use Rattle.script.specs.RaceScripts.{race_grammar}
use Rattle.script.specs.RaceShapes.{FitsRace, HasRaceShape}
use Rattle.script.specs.Shapes.{IsRemark, is_of_session}
use Rattle.script.specs.declared.command.Command.TheVariants as command
use Rattle.script.specs.declared.part.Part.TheVariants as part
use Rattle.script.specs.declared.race.build.Build.{Build}
use Rattle.script.specs.declared.race.line.RaceLine.{RaceLine}
use Rattle.script.specs.declared.race.line.RaceLine.TheVariants.{PassedOver, Table, Row, Spools, Build as BuildLine, Go, In}
use Rattle.script.specs.declared.race.name.RaceName.{RaceName}
use Rattle.script.specs.declared.race.name.RaceName.TheVariants as name
use Rattle.script.specs.declared.race.session_command.SessionCommand.{SessionCommand}
use Rattle.script.specs.declared.race.session_command.SessionCommand.TheVariants.{Begin, Insert, Update, Delete, Undo, Commit}
use Rattle.script.proofs.Shaped.{cell_part, command_fits, each_fits, spec_part, table_fits}

-- a build
build_fits : (fields : List (List ℕ)) (build : Build) → SpellBuild fields build → FitsRace name.Build fields
build_fits [] build spelled = spelled
build_fits (f ∷ []) build spelled = absurd spelled.1
build_fits (f ∷ g ∷ fs) build spelled =
    ((build.quota, spelled.0), ((build.dealing, spelled.1.0), each_fits SpellsSpec part.Spec spec_part fs build.specs.items spelled.1.1))

-- a command of a session
of_session : (command : SessionCommand) → is_of_session (name_of (as_command command)) ≡ true
of_session (Begin label) = refl
of_session (Insert label cells) = refl
of_session (Update label rid cells) = refl
of_session (Delete label rid) = refl
of_session (Undo label) = refl
of_session (Commit label) = refl

in_fits : (fields : List (List ℕ)) (session : ℕ) (command : SessionCommand) → SpellIn fields session command → FitsRace name.In fields
in_fits [] session command spelled = spelled
in_fits (f ∷ []) session command spelled = absurd spelled.1
in_fits (f ∷ g ∷ fs) session command spelled =
    ((session, spelled.0), (name_of (as_command command), of_session command, spelled.1.0, command_fits fs (as_command command) spelled.1.1))

-- nothing
none_fit : (fields : List (List ℕ)) → fields ≡ [] → FitsRace name.Go fields
none_fit [] none = tt
none_fit (f ∷ fs) none = cc

race_line_shape : (fields : List (List ℕ)) (line : RaceLine) → SpellRaceLine fields line → HasRaceShape fields
race_line_shape [] PassedOver spelled = spelled
race_line_shape [] (Table table) spelled = spelled
race_line_shape [] (Row cells) spelled = spelled
race_line_shape [] (Spools choice) spelled = spelled
race_line_shape [] (BuildLine build) spelled = spelled
race_line_shape [] Go spelled = spelled
race_line_shape [] (In session command) spelled = spelled
race_line_shape (f ∷ fs) PassedOver spelled = inl spelled
race_line_shape (f ∷ fs) (Table table) spelled = inr (name.Table, spelled.0, table_fits fs table spelled.1)
race_line_shape (f ∷ fs) (Row cells) spelled = inr (name.Row, spelled.0, each_fits SpellsCell part.Cell cell_part fs cells.items spelled.1)
race_line_shape (f ∷ fs) (Spools choice) spelled = inr (name.Spools, spelled.0, command_fits fs (command.Spools choice) spelled.1)
race_line_shape (f ∷ fs) (BuildLine build) spelled = inr (name.Build, spelled.0, build_fits fs build spelled.1)
race_line_shape (f ∷ fs) Go spelled = inr (name.Go, spelled.0, none_fit fs spelled.1)
race_line_shape (f ∷ fs) (In session command) spelled = inr (name.In, spelled.0, in_fits fs session command spelled.1)

-- the name that a text is, where it is one
named : List ℕ → RaceName
named text =
    if bytes_eq text (codes "table") then name.Table
    else if bytes_eq text (codes "row") then name.Row
    else if bytes_eq text (codes "spools") then name.Spools
    else if bytes_eq text (codes "build") then name.Build
    else if bytes_eq text (codes "go") then name.Go
    else name.In

named_written : (one : RaceName) → named (race_written one) ≡ one
unfolding named
named_written name.Table = refl
named_written name.Row = refl
named_written name.Spools = refl
named_written name.Build = refl
named_written name.Go = refl
named_written name.In = refl

-- no two names are written alike
same_name : (one other : RaceName) → race_written one ≡ race_written other → one ≡ other
same_name one other same = sym (named_written one) ∙ ap named same ∙ named_written other

-- no name is a remark
begins_plain : (one : RaceName) → (slice_index (race_written one) 0 == 35) ≡ false
begins_plain name.Table = refl
begins_plain name.Row = refl
begins_plain name.Spools = refl
begins_plain name.Build = refl
begins_plain name.Go = refl
begins_plain name.In = refl

no_remark : (one : RaceName) → IsRemark (race_written one) → ⊥
no_remark one remark =
    let both : true ≡ false = ap (λ (text : List ℕ). slice_index text 0 == 35) (sym remark.1) ∙ begins_plain one in cc

-- the text begins a line of that name
BeginsAs : List ℕ → Option RaceName → Type 0
BeginsAs text None = IsRemark text
BeginsAs text (Some one) = text ≡ race_written one

begins_as : (first : List ℕ) (rest : List (List ℕ)) (line : RaceLine) → SpellRaceLine (first ∷ rest) line → BeginsAs first (name_of_line line)
unfolding BeginsAs
begins_as first rest PassedOver spelled = spelled
begins_as first rest (Table table) spelled = spelled.0
begins_as first rest (Row cells) spelled = spelled.0
begins_as first rest (Spools choice) spelled = spelled.0
begins_as first rest (BuildLine build) spelled = spelled.0
begins_as first rest Go spelled = spelled.0
begins_as first rest (In session command) spelled = spelled.0

same_begin : (text : List ℕ) (one other : Option RaceName) → BeginsAs text one → BeginsAs text other → one ≡ other
unfolding BeginsAs
same_begin text None None begins also = refl
same_begin text None (Some other) begins also = absurd (no_remark other (rw also at begins))
same_begin text (Some one) None begins also = absurd (no_remark one (rw begins at also))
same_begin text (Some one) (Some other) begins also = ap Some (same_name one other (sym begins ∙ also))

-- lines that the same fields spell have one name
same_line_name : (fields : List (List ℕ)) (one other : RaceLine) → SpellRaceLine fields one → SpellRaceLine fields other
    → name_of_line one ≡ name_of_line other
same_line_name [] PassedOver other spelled also = absurd spelled
same_line_name [] (Table table) other spelled also = absurd spelled
same_line_name [] (Row cells) other spelled also = absurd spelled
same_line_name [] (Spools choice) other spelled also = absurd spelled
same_line_name [] (BuildLine build) other spelled also = absurd spelled
same_line_name [] Go other spelled also = absurd spelled
same_line_name [] (In session command) other spelled also = absurd spelled
same_line_name (f ∷ fs) one other spelled also =
    same_begin f (name_of_line one) (name_of_line other) (begins_as f fs one spelled) (begins_as f fs other also)

pub race_is_clear : IsClear race_grammar
race_is_clear = record { shape = race_line_shape; one_name = same_line_name }

-- What was read of a race script so far.
use Rattle.std.specs.Prelude.{◌≡◌, ℕ, Bool, ◌||◌, true, false, List, [], ◌∷◌, ◌++◌, Option, Some, None, ⊤}
use Rattle.std.specs.Global.{Vec}
use Rattle.std.specs.Option.{option_to_list}
use Rattle.keybytes.specs.declared.cell.Cell.{Cell}
use Rattle.script.specs.Grammars.{names}
use Rattle.script.specs.RaceOrder.{gathered, has, name_of_line}
use Rattle.script.specs.RaceScripts.{build_at, choice_at, race_grammar, row_at, step_at, table_at}
use Rattle.script.specs.declared.race.build.Build.{Build}
use Rattle.script.specs.declared.race.line.RaceLine.{RaceLine}
use Rattle.script.specs.declared.race.name.RaceName.{RaceName}
use Rattle.script.specs.declared.race.name.RaceName.TheVariants as name
use Rattle.script.specs.declared.race.session_step.SessionStep.{SessionStep}
use Rattle.run_spool.specs.declared.choice.SpoolChoice.{SpoolChoice}
use Rattle.script.specs.declared.table.Table.{Table}

pub record RaceDraftValue : Type 0 where
  -- the record `table` and its number, if it was read
  pub tables : List (ℕ × Table)
  pub rows : List (Vec Cell)
  -- the kind of the record `spools`, if it was read
  pub choices : List SpoolChoice
  -- the record `build`, if it was read
  pub builds : List Build
  pub steps : List SessionStep
  -- a record was read that isn't passed over
  pub begun : Bool
  -- `go` was read
  pub gone : Bool

-- the list has an element
abbrev pub is_some_list : {A : Type 0} → List A → Bool
is_some_list [] = false
is_some_list (x ∷ xs) = true

-- a record of that name may come next
abbrev pub MayComeNext : RaceDraftValue → Option RaceName → Type 0
MayComeNext draft None = ⊤
MayComeNext draft (Some name.Table) = draft.begun ≡ false
MayComeNext draft (Some name.Row) = draft.gone ≡ false
MayComeNext draft (Some name.Spools) = (draft.gone ≡ false) × (is_some_list draft.choices ≡ false)
MayComeNext draft (Some name.Build) = (draft.gone ≡ false) × (is_some_list draft.builds ≡ false)
MayComeNext draft (Some name.Go) = draft.gone ≡ false
MayComeNext draft (Some name.In) = draft.gone ≡ true

-- the draft with one more line, of that number
abbrev pub with_race_line : RaceDraftValue → ℕ → RaceLine → RaceDraftValue
with_race_line draft number line = record {
  tables = draft.tables ++ table_at number line;
  rows = draft.rows ++ row_at number line;
  choices = draft.choices ++ choice_at number line;
  builds = draft.builds ++ build_at number line;
  steps = draft.steps ++ step_at number line;
  begun = draft.begun || is_some_list (option_to_list (name_of_line line));
  gone = draft.gone || has name.Go (option_to_list (name_of_line line));
}

-- the draft has what the lines give
pub record IsRaceDraft (draft : RaceDraftValue) (lines : List RaceLine) : Type 0 where
  pub tables : gathered table_at 1 lines ≡ draft.tables
  pub rows : gathered row_at 1 lines ≡ draft.rows
  pub choices : gathered choice_at 1 lines ≡ draft.choices
  pub builds : gathered build_at 1 lines ≡ draft.builds
  pub steps : gathered step_at 1 lines ≡ draft.steps
  pub begun : is_some_list (names race_grammar lines) ≡ draft.begun
  pub gone : has name.Go (names race_grammar lines) ≡ draft.gone

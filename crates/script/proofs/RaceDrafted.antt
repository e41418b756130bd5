-- A draft of a race script, and the lines that were read.
use Rattle.std.proofs.Common.{◌≡◌, ℕ, ◌+◌, true, List, [], ◌∷◌, ◌++◌, length, false, Option, Some, None, refl, sym, ap, subst, ◌∙◌}
use Rattle.std.proofs.lemmas.List.Folds.{list_any-append}
use Rattle.std.specs.Option.{option_to_list}
use Rattle.script.specs.Explanations.{IsLacking}
use Rattle.script.specs.Grammars.{MayFollow, MayStand, names}
use Rattle.script.specs.RaceDrafts.{IsRaceDraft, MayComeNext, RaceDraftValue, is_some_list, with_race_line}
use Rattle.script.specs.RaceOrder.{AreWhole, has, name_of_line}
use Rattle.script.specs.RaceScripts.{IsRaceScript, build_at, choice_at, choice_of, race_grammar, row_at, step_at, table_at}
use Rattle.script.specs.Stops.{MayNotStand}
use Rattle.script.specs.declared.explanation.Explanation.TheVariants.{Missing}
use Rattle.script.specs.declared.race.line.RaceLine.{RaceLine}
use Rattle.script.specs.declared.race.name.RaceName.{RaceName}
use Rattle.script.specs.declared.race.name.RaceName.TheVariants as name
use Rattle.script.specs.declared.race.script.RaceScript.{RaceScript}
use Rattle.script.proofs.RaceGathered.{has_build, has_spools, has_table, names_more, none_some, pushed, some_append}

-- the draft with one more line
drafted_more : (draft : RaceDraftValue) (lines : List RaceLine) (number : ℕ) (line : RaceLine) → IsRaceDraft draft lines → number ≡ length lines + 1
    → IsRaceDraft (with_race_line draft number line) (lines ++ line ∷ [])
drafted_more draft lines number line drafted is =
    let some = names race_grammar lines in
    let one = option_to_list (name_of_line line) in
    let named = names_more lines line in
    record {
      tables = pushed table_at lines line number draft.tables is drafted.tables;
      rows = pushed row_at lines line number draft.rows is drafted.rows;
      choices = pushed choice_at lines line number draft.choices is drafted.choices;
      builds = pushed build_at lines line number draft.builds is drafted.builds;
      steps = pushed step_at lines line number draft.steps is drafted.steps;
      begun = ap is_some_list named ∙ some_append some one ∙ rw drafted.begun refl;
      gone = ap (has name.Go) named ∙ list_any-append _ some one ∙ rw drafted.gone refl;
    }

-- what the draft has, and the names of the lines
built : (draft : RaceDraftValue) (lines : List RaceLine) → IsRaceDraft draft lines
    → has name.Build (names race_grammar lines) ≡ is_some_list draft.builds
built draft lines drafted = has_build lines ∙ ap is_some_list drafted.builds

chosen : (draft : RaceDraftValue) (lines : List RaceLine) → IsRaceDraft draft lines
    → has name.Spools (names race_grammar lines) ≡ is_some_list draft.choices
chosen draft lines drafted = has_spools lines ∙ ap is_some_list drafted.choices

tabled : (draft : RaceDraftValue) (lines : List RaceLine) → IsRaceDraft draft lines
    → has name.Table (names race_grammar lines) ≡ is_some_list draft.tables
tabled draft lines drafted = has_table lines ∙ ap is_some_list drafted.tables

-- what may come next in the draft may stand behind the lines
may_stand : (draft : RaceDraftValue) (lines : List RaceLine) (named : Option RaceName) → IsRaceDraft draft lines → MayComeNext draft named
    → MayFollow race_grammar (names race_grammar lines) named
may_stand draft lines None drafted may = tt
may_stand draft lines (Some name.Table) drafted may = none_some (names race_grammar lines) (drafted.begun ∙ may)
may_stand draft lines (Some name.Row) drafted may = drafted.gone ∙ may
may_stand draft lines (Some name.Spools) drafted may = (drafted.gone ∙ may.0, chosen draft lines drafted ∙ may.1)
may_stand draft lines (Some name.Build) drafted may = (drafted.gone ∙ may.0, built draft lines drafted ∙ may.1)
may_stand draft lines (Some name.Go) drafted may = drafted.gone ∙ may
may_stand draft lines (Some name.In) drafted may = drafted.gone ∙ may

may_come : (draft : RaceDraftValue) (lines : List RaceLine) (named : Option RaceName) → IsRaceDraft draft lines
    → MayFollow race_grammar (names race_grammar lines) named → MayComeNext draft named
may_come draft lines None drafted may = tt
may_come draft lines (Some name.Table) drafted may = sym drafted.begun ∙ ap is_some_list may
may_come draft lines (Some name.Row) drafted may = sym drafted.gone ∙ may
may_come draft lines (Some name.Spools) drafted may = (sym drafted.gone ∙ may.0, sym (chosen draft lines drafted) ∙ may.1)
may_come draft lines (Some name.Build) drafted may = (sym drafted.gone ∙ may.0, sym (built draft lines drafted) ∙ may.1)
may_come draft lines (Some name.Go) drafted may = sym drafted.gone ∙ may
may_come draft lines (Some name.In) drafted may = sym drafted.gone ∙ may

pub added : (draft : RaceDraftValue) (lines : List RaceLine) (number : ℕ) (line : RaceLine) → MayComeNext draft (name_of_line line)
    → IsRaceDraft draft lines → number ≡ length lines + 1
    → MayStand race_grammar lines line × IsRaceDraft (with_race_line draft number line) (lines ++ line ∷ [])
added draft lines number line may drafted is =
    (may_stand draft lines (name_of_line line) drafted may, drafted_more draft lines number line drafted is)

pub not_added : (draft : RaceDraftValue) (lines : List RaceLine) (line : RaceLine) (one : RaceName) → name_of_line line ≡ Some one
    → (MayComeNext draft (Some one) → ⊥) → IsRaceDraft draft lines → MayNotStand race_grammar lines line one
not_added draft lines line one is bad drafted =
    (is, λ may. bad (may_come draft lines (Some one) drafted (subst (MayFollow race_grammar (names race_grammar lines)) is may)))

-- something is missing
module _ (draft : RaceDraftValue) (lines : List RaceLine) (drafted : IsRaceDraft draft lines) where
  pub no_table : draft.tables ≡ [] → IsLacking race_grammar lines (Missing name.Table)
  no_table none =
      let missing = tabled draft lines drafted ∙ ap is_some_list none in
      (λ whole. let both : false ≡ true = sym missing ∙ whole.0 in cc, missing)

  pub no_build : draft.builds ≡ [] → IsLacking race_grammar lines (Missing name.Build)
  no_build none =
      let missing = built draft lines drafted ∙ ap is_some_list none in
      (λ whole. let both : false ≡ true = sym missing ∙ whole.1 in cc, missing)

  pub not_gone : draft.gone ≡ false → IsLacking race_grammar lines (Missing name.Go)
  not_gone none =
      let missing = drafted.gone ∙ none in
      (λ whole. let both : false ≡ true = sym missing ∙ whole.2 in cc, missing)

  -- nothing is missing
  pub whole : is_some_list draft.tables ≡ true → is_some_list draft.builds ≡ true → draft.gone ≡ true → AreWhole (names race_grammar lines)
  whole table build gone = (tabled draft lines drafted ∙ table, built draft lines drafted ∙ build, drafted.gone ∙ gone)

  pub some_table : AreWhole (names race_grammar lines) → is_some_list draft.tables ≡ true
  some_table is = sym (tabled draft lines drafted) ∙ is.0

  pub some_build : AreWhole (names race_grammar lines) → is_some_list draft.builds ≡ true
  some_build is = sym (built draft lines drafted) ∙ is.1

  -- the script has what the lines give
  pub given : (script : RaceScript) → draft.tables ≡ (script.table_number, script.table) ∷ [] → draft.rows ≡ script.rows.items
      → choice_of draft.choices ≡ script.choice → draft.builds ≡ script.build ∷ [] → draft.steps ≡ script.steps.items → IsRaceScript lines script
  given script table rows choice build steps = record {
    table = drafted.tables ∙ table;
    rows = drafted.rows ∙ rows;
    choice = ap choice_of drafted.choices ∙ choice;
    build = drafted.builds ∙ build;
    steps = drafted.steps ∙ steps;
  }

-- What is wrong with a bad record.
use Rattle.std.specs.Prelude.{◌≡◌, ℕ, List, [], ◌∷◌, string_bytes, codes, Bool, ◌||◌, false, ⊤}
use Rattle.std.specs.Str.{bytes_eq}
use Rattle.csv.specs.Records.{AllText}
use Rattle.script.specs.Grammars.{Grammar, IsBadBehind, StandsBehind, names}
use Rattle.script.specs.Stops.{IsMisplaced}
use Rattle.script.specs.declared.cause.Cause.{Cause}
use Rattle.script.specs.declared.cause.Cause.TheVariants as causes
use Rattle.script.specs.declared.check_error.CheckError.{CheckError}
use Rattle.script.specs.declared.check_error.CheckError.TheVariants.{Bad, CannotRead, NoMemory}
use Rattle.script.specs.declared.explanation.Explanation.{Explanation}
use Rattle.script.specs.declared.explanation.Explanation.TheVariants.{Misfit as IsMisfit, Misplaced, Missing, NoTable, NotText}
use Rattle.script.specs.declared.misfit.Misfit.{Misfit}
use Rattle.script.specs.declared.misfit.Misfit.TheVariants.{Behind, BehindInRace, InSession, UnknownCommand, UnknownInRace}
use Rattle.script.specs.declared.stop.Stop.{Stop}

-- what is wrong with the first of the records, behind these lines, or what is missing where there is none
abbrev pub Tells : {Name Line : Type 0} → Grammar Name Line → List Line → List (List (List ℕ)) → Explanation → Type 0
Tells grammar lines [] explanation = grammar.tells_missing (names grammar lines) explanation
Tells grammar lines (fields ∷ rest) NotText = ¬ (AllText fields)
Tells grammar lines (fields ∷ rest) (IsMisfit misfit) = grammar.tells_misfit fields misfit
Tells grammar lines (fields ∷ rest) (Misplaced name) = IsMisplaced grammar lines (fields ∷ rest) name
Tells grammar lines (fields ∷ rest) NoTable = ⊥
Tells grammar lines (fields ∷ rest) (Missing name) = ⊥

-- the error names the first bad record of the text, and what is wrong with it
abbrev pub Explains : {Name Line : Type 0} → Grammar Name Line → List ℕ → CheckError → Type 0
Explains grammar text CannotRead = ⊤
Explains grammar text NoMemory = ⊤
Explains {Name} {Line} grammar text (Bad number explanation) =
    (lines : List Line) × (behind : List (List (List ℕ)))
    × StandsBehind grammar text lines behind number × IsBadBehind grammar lines behind × Tells grammar lines behind explanation

-- the explanation is of that cause, and of these fields where they were misspelled
abbrev pub IsOfCause : {Name Line : Type 0} → Grammar Name Line → Cause → List (List ℕ) → Explanation → Type 0
IsOfCause grammar cause fields NotText = cause ≡ causes.NotText
IsOfCause grammar cause fields (IsMisfit misfit) = (cause ≡ causes.Misspelled) × grammar.tells_misfit fields misfit
IsOfCause grammar cause fields (Misplaced name) = cause ≡ causes.Misplaced name
IsOfCause grammar cause fields NoTable = ⊥
IsOfCause grammar cause fields (Missing name) = ⊥

-- the error explains why the reading stopped
abbrev pub ExplainsStop : {Name Line : Type 0} → Grammar Name Line → Stop → List (List ℕ) → CheckError → Type 0
ExplainsStop grammar stop fields CannotRead = ⊤
ExplainsStop grammar stop fields NoMemory = ⊤
ExplainsStop grammar stop fields (Bad number explanation) = (number ≡ stop.number) × IsOfCause grammar stop.cause fields explanation

-- this is missing of the lines, which so are no whole script
abbrev pub IsLacking : {Name Line : Type 0} → Grammar Name Line → List Line → Explanation → Type 0
IsLacking grammar lines explanation =
    ¬ (grammar.are_whole (names grammar lines)) × grammar.tells_missing (names grammar lines) explanation

-- the text is the name of a record that only a race has
abbrev pub names_race : List ℕ → Bool
names_race text = bytes_eq text (codes "build") || bytes_eq text (codes "go")

-- the same of a misfit
abbrev pub misfit_names_race : Misfit → Bool
misfit_names_race (UnknownCommand text) = names_race (string_bytes text)
misfit_names_race (UnknownInRace text) = false
misfit_names_race (Behind name unfit) = false
misfit_names_race (BehindInRace name unfit) = false
misfit_names_race (InSession name unfit) = false

-- the same of what is wrong with a record
abbrev pub explanation_names_race : Explanation → Bool
explanation_names_race NotText = false
explanation_names_race (IsMisfit misfit) = misfit_names_race misfit
explanation_names_race (Misplaced name) = false
explanation_names_race NoTable = false
explanation_names_race (Missing name) = false

-- the first bad record of a script that is replayed is one that only a race has
abbrev pub stops_at_race : CheckError → Bool
stops_at_race CannotRead = false
stops_at_race NoMemory = false
stops_at_race (Bad number explanation) = explanation_names_race explanation

-- Where the reading of a script stops.
use Rattle.std.proofs.Common.{◌≡◌, ℕ, List, [], ◌∷◌, subst, sym}
use Rattle.script.specs.Causes.{error_at}
use Rattle.script.specs.Explanations.{Explains, ExplainsStop, IsOfCause, Tells}
use Rattle.script.specs.Grammars.{Grammar, HasRead, IsBadBehind, IsClear, IsFirstBadIn, MayFollow, StandsBehind, names}
use Rattle.script.specs.Records.{BeginsWithBytes}
use Rattle.script.specs.Stops.{IsMisplaced, IsMisspelled, IsNotPut, IsStopped, MayNotStand, StopsAt, TakesLine}
use Rattle.script.specs.declared.cause.Cause.{Cause}
use Rattle.script.specs.declared.cause.Cause.TheVariants.{CannotRead, Misplaced, Misspelled, NoMemory, NotText}
use Rattle.script.specs.declared.check_error.CheckError.{CheckError}
use Rattle.script.specs.declared.check_error.CheckError.TheVariants as errors
use Rattle.script.specs.declared.explanation.Explanation.{Explanation}
use Rattle.script.specs.declared.explanation.Explanation.TheVariants as explanations
use Rattle.script.specs.declared.race.name.RaceName.{RaceName}
use Rattle.script.specs.declared.script_error.ScriptError.TheVariants.{Bad}
use Rattle.script.specs.declared.stop.Stop.{Stop}

module _ {Name Line : Type 0} (grammar : Grammar Name Line) where
  -- the record whose line is misplaced
  misplaced_there : (lines : List Line) (left rest : List (List (List ℕ))) (line : Line) (name : RaceName) → TakesLine grammar left rest line
      → MayNotStand grammar lines line name → IsMisplaced grammar lines left name
  misplaced_there lines left rest line name takes bad =
      let here : IsMisplaced grammar lines (takes.0 ∷ rest) name = (line, takes.2, bad) in
      subst (λ (records : List (List (List ℕ))). IsMisplaced grammar lines records name) (sym takes.1) here

  pub stops_there : (Has : List Line → Type 0) (text : List ℕ) (left rest : List (List (List ℕ))) (number : ℕ) (line : Line) (fields : List (List ℕ))
      (cause : Cause) → HasRead grammar Has text left number → TakesLine grammar left rest line
      → ((lines : List Line) → Has lines → IsNotPut grammar lines line cause)
      → StopsAt grammar text fields (record { number = number; cause = cause })
  stops_there Has text left rest number line fields (Misplaced name) read takes bad =
      (read.0, left, read.1, misplaced_there read.0 left rest line name takes (bad read.0 read.2))
  stops_there Has text left rest number line fields NoMemory read takes bad = (read.0, left, read.1, tt)
  stops_there Has text left rest number line fields NotText read takes bad = absurd (bad read.0 read.2)
  stops_there Has text left rest number line fields Misspelled read takes bad = absurd (bad read.0 read.2)
  stops_there Has text left rest number line fields CannotRead read takes bad = absurd (bad read.0 read.2)

  -- the explanation of the first record
  bytes_told : (lines : List Line) (left : List (List (List ℕ))) → BeginsWithBytes left → Tells grammar lines left explanations.NotText
  bytes_told lines [] bytes = absurd bytes
  bytes_told lines (f ∷ rest) bytes = bytes

  misplaced_told : (lines : List Line) (left : List (List (List ℕ))) (name : RaceName) → IsMisplaced grammar lines left name
      → Tells grammar lines left (explanations.Misplaced name)
  misplaced_told lines [] name misplaced = absurd misplaced
  misplaced_told lines (f ∷ rest) name misplaced = misplaced

  -- where the reading stops for a bad record, no line may stand there
  bytes_bad : (lines : List Line) (left : List (List (List ℕ))) → BeginsWithBytes left → IsBadBehind grammar lines left
  bytes_bad lines [] bytes = absurd bytes
  bytes_bad lines (f ∷ rest) bytes = λ line spelled may. bytes spelled.0

  module _ (clear : IsClear grammar) where
    misspelled_bad : (lines : List Line) (left : List (List (List ℕ))) (fields : List (List ℕ)) → IsMisspelled grammar left fields
        → IsBadBehind grammar lines left
    misspelled_bad lines left fields misspelled =
        let behind : IsBadBehind grammar lines (fields ∷ misspelled.0) =
        λ line spelled may. misspelled.3 (clear.shape fields line spelled.1) in
        subst (IsBadBehind grammar lines) (sym misspelled.1) behind

    misplaced_bad : (lines : List Line) (left : List (List (List ℕ))) (name : RaceName) → IsMisplaced grammar lines left name
        → IsBadBehind grammar lines left
    misplaced_bad lines [] name misplaced = absurd misplaced
    misplaced_bad lines (f ∷ rest) name misplaced = λ line spelled may.
        let same = clear.one_name f line misplaced.0 spelled.1 misplaced.1.1 in
        misplaced.2.1 (subst (MayFollow grammar (names grammar lines)) same may)

    -- the first bad record is that of the error
    first_bad_at : (text : List ℕ) (lines : List Line) (left : List (List (List ℕ))) (fields : List (List ℕ)) (here number : ℕ) (cause : Cause)
        → StandsBehind grammar text lines left here → IsStopped grammar lines left fields cause → error_at here cause ≡ Bad number
        → IsFirstBadIn grammar text number
    first_bad_at text lines left fields here number NotText behind stopped is =
        let same : here ≡ number = cc in (lines, left, rw (← same) behind, bytes_bad lines left stopped)
    first_bad_at text lines left fields here number Misspelled behind stopped is =
        let same : here ≡ number = cc in (lines, left, rw (← same) behind, misspelled_bad lines left fields stopped)
    first_bad_at text lines left fields here number (Misplaced name) behind stopped is =
        let same : here ≡ number = cc in (lines, left, rw (← same) behind, misplaced_bad lines left name stopped)
    first_bad_at text lines left fields here number NoMemory behind stopped is = absurd (let both = is in cc)
    first_bad_at text lines left fields here number CannotRead behind stopped is = absurd (let both = is in cc)

    pub first_bad : (text : List ℕ) (fields : List (List ℕ)) (stop : Stop) (number : ℕ) → StopsAt grammar text fields stop
        → error_at stop.number stop.cause ≡ Bad number → IsFirstBadIn grammar text number
    first_bad text fields stop number stops is = first_bad_at text stops.0 stops.1 fields stop.number number stop.cause stops.2 stops.3 is

    -- the explanation of a cause is one of the record
    explained : (lines : List Line) (left : List (List (List ℕ))) (fields : List (List ℕ)) (cause : Cause) (explanation : Explanation)
        → IsStopped grammar lines left fields cause → IsOfCause grammar cause fields explanation
        → IsBadBehind grammar lines left × Tells grammar lines left explanation
    explained lines left fields cause explanations.NotText stopped is =
        let bytes = subst (IsStopped grammar lines left fields) is stopped in (bytes_bad lines left bytes, bytes_told lines left bytes)
    explained lines left fields cause (explanations.Misfit misfit) stopped is =
        let misspelled = subst (IsStopped grammar lines left fields) is.0 stopped in
        let here : Tells grammar lines (fields ∷ misspelled.0) (explanations.Misfit misfit) = is.1 in
        let told = subst (λ (records : List (List (List ℕ))). Tells grammar lines records (explanations.Misfit misfit)) (sym misspelled.1) here in
        (misspelled_bad lines left fields misspelled, told)
    explained lines left fields cause (explanations.Misplaced name) stopped is =
        let misplaced = subst (IsStopped grammar lines left fields) is stopped in
        (misplaced_bad lines left name misplaced, misplaced_told lines left name misplaced)
    explained lines left fields cause explanations.NoTable stopped is = absurd is
    explained lines left fields cause (explanations.Missing name) stopped is = absurd is

    pub explains : (text : List ℕ) (fields : List (List ℕ)) (stop : Stop) (error : CheckError) → StopsAt grammar text fields stop
        → ExplainsStop grammar stop fields error → Explains grammar text error
    explains text fields stop errors.CannotRead stops is = tt
    explains text fields stop errors.NoMemory stops is = tt
    explains text fields stop (errors.Bad number explanation) stops is =
        let told = explained stops.0 stops.1 fields stop.cause explanation stops.3 is.1 in
        (stops.0, stops.1, rw is.0 stops.2, told.0, told.1)

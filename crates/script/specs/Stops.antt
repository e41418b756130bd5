-- Where the reading of a script stops, and why.
use Rattle.std.specs.Prelude.{◌≡◌, ℕ, List, [], ◌∷◌, Some, ⊤}
use Rattle.csv.specs.Records.{AllText}
use Rattle.script.specs.Grammars.{Grammar, MayStand, RecordSpells, StandsBehind}
use Rattle.script.specs.Records.{BeginsWithBytes}
use Rattle.script.specs.declared.cause.Cause.{Cause}
use Rattle.script.specs.declared.cause.Cause.TheVariants.{CannotRead, Misplaced, Misspelled, NoMemory, NotText}
use Rattle.script.specs.declared.race.name.RaceName.{RaceName}
use Rattle.script.specs.declared.stop.Stop.{Stop}

-- the first of the records spells the line, and the others stay
abbrev pub TakesLine : {Name Line : Type 0} → Grammar Name Line → List (List (List ℕ)) → List (List (List ℕ)) → Line → Type 0
TakesLine grammar records rest line = (fields : List (List ℕ)) × (records ≡ fields ∷ rest) × RecordSpells grammar fields line

-- the first of the records is text with these fields, and they have no shape of a line
abbrev pub IsMisspelled : {Name Line : Type 0} → Grammar Name Line → List (List (List ℕ)) → List (List ℕ) → Type 0
IsMisspelled grammar records fields = (rest : List (List (List ℕ))) × (records ≡ fields ∷ rest) × AllText fields × ¬ (grammar.has_shape fields)

-- the line is told by that name, and may not stand behind these lines
abbrev pub MayNotStand : {Name Line : Type 0} → Grammar Name Line → List Line → Line → RaceName → Type 0
MayNotStand grammar lines line name = (grammar.told_as line ≡ Some name) × ¬ (MayStand grammar lines line)

-- the first of the records spells a line that is told by that name, and may not stand behind these lines
abbrev pub IsMisplaced : {Name Line : Type 0} → Grammar Name Line → List Line → List (List (List ℕ)) → RaceName → Type 0
IsMisplaced grammar lines [] name = ⊥
IsMisplaced {Name} {Line} grammar lines (fields ∷ rest) name = (line : Line) × RecordSpells grammar fields line × MayNotStand grammar lines line name

-- why the first of the records gave no line; the fields are those that were read last
abbrev pub FailsToSpell : {Name Line : Type 0} → Grammar Name Line → List (List (List ℕ)) → List (List ℕ) → Cause → Type 0
FailsToSpell grammar records fields NotText = BeginsWithBytes records
FailsToSpell grammar records fields Misspelled = IsMisspelled grammar records fields
FailsToSpell grammar records fields (Misplaced name) = ⊥
FailsToSpell grammar records fields NoMemory = ⊤
FailsToSpell grammar records fields CannotRead = ⊤

-- why a line is not put behind these lines
abbrev pub IsNotPut : {Name Line : Type 0} → Grammar Name Line → List Line → Line → Cause → Type 0
IsNotPut grammar lines line (Misplaced name) = MayNotStand grammar lines line name
IsNotPut grammar lines line NoMemory = ⊤
IsNotPut grammar lines line NotText = ⊥
IsNotPut grammar lines line Misspelled = ⊥
IsNotPut grammar lines line CannotRead = ⊥

-- why the first of the records is not taken behind the lines
abbrev pub IsStopped : {Name Line : Type 0} → Grammar Name Line → List Line → List (List (List ℕ)) → List (List ℕ) → Cause → Type 0
IsStopped grammar lines records fields NotText = BeginsWithBytes records
IsStopped grammar lines records fields Misspelled = IsMisspelled grammar records fields
IsStopped grammar lines records fields (Misplaced name) = IsMisplaced grammar lines records name
IsStopped grammar lines records fields NoMemory = ⊤
IsStopped grammar lines records fields CannotRead = ⊤

-- the reading stopped behind good records
abbrev pub StopsAt : {Name Line : Type 0} → Grammar Name Line → List ℕ → List (List ℕ) → Stop → Type 0
StopsAt {Name} {Line} grammar text fields stop =
    (lines : List Line) × (behind : List (List (List ℕ)))
    × StandsBehind grammar text lines behind stop.number × IsStopped grammar lines behind fields stop.cause

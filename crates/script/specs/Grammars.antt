-- A kind of scripts: what its records spell, in which order they come, and which of them is the first bad one.
use Rattle.std.specs.Prelude.{◌≡◌, ℕ, ◌+◌, List, [], ◌∷◌, ◌++◌, length, Option, Some, None, ⊤}
use Rattle.std.specs.List.{AllZip}
use Rattle.std.specs.Option.{option_to_list}
use Rattle.csv.specs.Records.{AllText}
use Rattle.script.specs.Records.{records_of}
use Rattle.script.specs.declared.explanation.Explanation.{Explanation}
use Rattle.script.specs.declared.misfit.Misfit.{Misfit}
use Rattle.script.specs.declared.race.name.RaceName.{RaceName}

pub record Grammar (Name Line : Type 0) : Type 1 where
  -- the fields ask for the line
  pub spells : List (List ℕ) → Line → Type 0
  -- the fields are a remark, or a name and fields that fit it
  pub has_shape : List (List ℕ) → Type 0
  -- what is wrong with fields
  pub tells_misfit : List (List ℕ) → Misfit → Type 0
  -- the name of a line's record; one that is passed over has none
  pub name_of : Line → Option Name
  -- the name by which it is told that a record is misplaced
  pub told_as : Line → Option RaceName
  -- a record of that name may come behind records of these names
  pub may_come : List Name → Name → Type 0
  -- nothing is missing beside records of these names
  pub are_whole : List Name → Type 0
  -- what is missing beside them
  pub tells_missing : List Name → Explanation → Type 0

-- fields that spell a line have the shape of one, and all lines that they spell have one name
pub record IsClear {Name Line : Type 0} (grammar : Grammar Name Line) : Type 0 where
  pub shape : (fields : List (List ℕ)) (line : Line) → grammar.spells fields line → grammar.has_shape fields
  pub one_name : (fields : List (List ℕ)) (one other : Line) → grammar.spells fields one → grammar.spells fields other
      → grammar.name_of one ≡ grammar.name_of other

-- the names of the lines' records
abbrev pub names : {Name Line : Type 0} → Grammar Name Line → List Line → List Name
names grammar [] = []
names grammar (line ∷ lines) = option_to_list (grammar.name_of line) ++ names grammar lines

-- a record of that name may come behind records of these names; one that is passed over may come anywhere
abbrev pub MayFollow : {Name Line : Type 0} → Grammar Name Line → List Name → Option Name → Type 0
MayFollow grammar before None = ⊤
MayFollow grammar before (Some name) = grammar.may_come before name

-- the line may stand behind these lines
abbrev pub MayStand : {Name Line : Type 0} → Grammar Name Line → List Line → Line → Type 0
MayStand grammar before line = MayFollow grammar (names grammar before) (grammar.name_of line)

-- each line may stand behind these and those before it
abbrev pub AreInOrder : {Name Line : Type 0} → Grammar Name Line → List Line → List Line → Type 0
AreInOrder grammar before [] = ⊤
AreInOrder grammar before (line ∷ lines) = MayStand grammar before line × AreInOrder grammar (before ++ line ∷ []) lines

-- a record spells a line where its fields are text and ask for that line
abbrev pub RecordSpells : {Name Line : Type 0} → Grammar Name Line → List (List ℕ) → Line → Type 0
RecordSpells grammar fields line = AllText fields × grammar.spells fields line

-- the records spell the lines, one each, and these are in order
abbrev pub SpellLines : {Name Line : Type 0} → Grammar Name Line → List (List (List ℕ)) → List Line → Type 0
SpellLines grammar records lines = AllZip (RecordSpells grammar) records lines × AreInOrder grammar [] lines

-- every record of the text is good, nothing is missing, and the lines give the script
abbrev pub SpellsAll : {Name Line Script : Type 0} → Grammar Name Line → (List Line → Script → Type 0) → List ℕ → Script → Type 0
SpellsAll {Name} {Line} grammar Gives text script =
    (lines : List Line) × SpellLines grammar (records_of text) lines × grammar.are_whole (names grammar lines) × Gives lines script

-- the first records of the text spell these lines, and the others stand behind them, the first of those with that number
pub record StandsBehind {Name Line : Type 0} (grammar : Grammar Name Line) (text : List ℕ) (lines : List Line) (behind : List (List (List ℕ)))
    (number : ℕ) : Type 0 where
  pub before : List (List (List ℕ))
  pub split : records_of text ≡ before ++ behind
  pub spelled : SpellLines grammar before lines
  pub numbered : number ≡ length lines + 1

-- the first of the records is bad behind these lines: it spells no line that may stand there, or there is none and something is missing
abbrev pub IsBadBehind : {Name Line : Type 0} → Grammar Name Line → List Line → List (List (List ℕ)) → Type 0
IsBadBehind grammar lines [] = ¬ (grammar.are_whole (names grammar lines))
IsBadBehind {Name} {Line} grammar lines (fields ∷ rest) = (line : Line) → RecordSpells grammar fields line → ¬ (MayStand grammar lines line)

-- the records before the one of that number are good, and it is bad
abbrev pub IsFirstBadIn : {Name Line : Type 0} → Grammar Name Line → List ℕ → ℕ → Type 0
IsFirstBadIn {Name} {Line} grammar text number =
    (lines : List Line) × (behind : List (List (List ℕ)))
    × StandsBehind grammar text lines behind number × IsBadBehind grammar lines behind

-- so many records are all of the text, and all are good
abbrev pub AreAllGood : {Name Line : Type 0} → Grammar Name Line → List ℕ → ℕ → Type 0
AreAllGood {Name} {Line} grammar text count =
    (lines : List Line) × SpellLines grammar (records_of text) lines × grammar.are_whole (names grammar lines) × (count ≡ length (records_of text))

-- these records are left, from that number on, and the lines before them are those of which this holds
abbrev pub HasRead : {Name Line : Type 0} → Grammar Name Line → (List Line → Type 0) → List ℕ → List (List (List ℕ)) → ℕ → Type 0
HasRead {Name} {Line} grammar Has text left number = (lines : List Line) × StandsBehind grammar text lines left number × Has lines

-- A script that comes line by line, and what each of its records is.
use Rattle.std.specs.Prelude.{◌≡◌, ◌==◌, ℕ, List, [], ◌∷◌, ◌++◌, string_bytes, if◌then◌else◌}
use Rattle.csv.specs.Records.{AllText}
use Rattle.script.specs.Explanations.{Tells}
use Rattle.script.specs.Grammars.{RecordSpells}
use Rattle.script.specs.Misfits.{IsUnknown}
use Rattle.script.specs.Records.{records_of}
use Rattle.script.specs.Scripts.{script_grammar}
use Rattle.script.specs.declared.input_record.InputRecord.{InputRecord}
use Rattle.script.specs.declared.input_record.InputRecord.TheVariants.{Good, Word, Bad}

-- the lines with the byte in front of the first
abbrev pub put_first : ℕ → List (List ℕ) → List (List ℕ)
put_first byte [] = (byte ∷ []) ∷ []
put_first byte (line ∷ lines) = (byte ∷ line) ∷ lines

-- the input lines of a text: each ends with a line feed, which the last may lack
abbrev pub input_lines : List ℕ → List (List ℕ)
input_lines [] = []
input_lines (byte ∷ text) = if byte == 10 then (byte ∷ []) ∷ input_lines text else put_first byte (input_lines text)

-- the records of lines that are read one after the other; none spans two lines
abbrev pub records_in_lines : List (List ℕ) → List (List (List ℕ))
records_in_lines [] = []
records_in_lines (line ∷ lines) = records_of line ++ records_in_lines lines

-- the record is one field alone, whose text is neither the name of a command nor a remark
abbrev pub IsWord : List (List ℕ) → Type 0
IsWord fields = (text : List ℕ) × (fields ≡ text ∷ []) × AllText fields × IsUnknown text

-- a record is told to be the line that it spells, the word that it is, or bad, which no word is
abbrev pub IsTold : List (List ℕ) → InputRecord → Type 0
IsTold fields (Good line) = RecordSpells script_grammar fields line
IsTold fields (Word text) = (fields ≡ string_bytes text ∷ []) × IsWord fields
IsTold fields (Bad explanation) = Tells script_grammar [] (fields ∷ []) explanation × ¬ (IsWord fields)

-- the first of the records is told so, and the others stay
abbrev pub TellsNext : List (List (List ℕ)) → List (List (List ℕ)) → InputRecord → Type 0
TellsNext records rest told = (fields : List (List ℕ)) × (records ≡ fields ∷ rest) × IsTold fields told

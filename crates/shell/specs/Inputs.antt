-- The records that an input gives, line by line. A word of this file that ends with an input, what it gave and an input says of the three what
-- stood before, what was given and what stands now.
use Rattle.std.specs.Prelude.{◌≡◌, ℕ, ◌+◌, List, [], ◌∷◌, ◌++◌, length, Option, Some, IsSome}
use Rattle.std.specs.List.{AllZip}
use Rattle.script.specs.InputLines.{IsTold, input_lines, records_in_lines}
use Rattle.script.specs.declared.input_record.InputRecord.{InputRecord}
use Rattle.shell.specs.declared.numbered_record.NumberedRecord.{NumberedRecord}

-- an input as callers see it
pub record InputValue : Type 0 where
  -- the bytes that are still to be read, where they are known
  pub bytes : Option (List ℕ)
  -- the records of the line read last that were not given yet
  pub waiting : List InputRecord
  -- how many records were given
  pub given : ℕ

-- the records of a text that is read line by line
abbrev pub records_by_line : List ℕ → List (List (List ℕ))
records_by_line text = records_in_lines (input_lines text)

-- these are all records of the text, each as it is told
abbrev pub AreAllOf : List ℕ → List InputRecord → Type 0
AreAllOf text told = AllZip IsTold (records_by_line text) told

-- these are the first records of the text, each as it is told
abbrev pub AreFirstOf : List ℕ → List InputRecord → Type 0
AreFirstOf text told = (read : List (List (List ℕ))) × (rest : List (List (List ℕ))) × (records_by_line text ≡ read ++ rest) × AllZip IsTold read told

-- an input over the text gave these records; those that wait come next, and then those of the bytes that are still to be read
pub record HasGiven (text : List ℕ) (told : List InputRecord) (input : InputValue) : Type 0 where
  pub read : List (List (List ℕ))
  pub left : List ℕ
  pub known : input.bytes ≡ Some left
  pub split : records_by_line text ≡ read ++ records_by_line left
  pub each : AllZip IsTold read (told ++ input.waiting)

-- the input gave these records, whatever it had given before
pub record Gives (old : InputValue) (told : List InputRecord) (new : InputValue) : Type 0 where
  pub counted : new.given ≡ old.given + length told
  pub behind : (text : List ℕ) (before : List InputRecord) → HasGiven text before old → HasGiven text (before ++ told) new

-- the input gave the record, with its number
abbrev pub GivesNext : InputValue → InputValue → NumberedRecord → Type 0
GivesNext old new next = (next.number ≡ old.given + 1) × Gives old (next.record ∷ []) new

-- bytes that are known stay so
abbrev pub StayKnown : Option (List ℕ) → Option (List ℕ) → Type 0
StayKnown old new = IsSome old → IsSome new

-- of bytes that were known none is left
abbrev pub IsReadOut : Option (List ℕ) → Option (List ℕ) → Type 0
IsReadOut old new = IsSome old → new ≡ Some []

-- nothing is left to be given: all records of the text were
abbrev pub HasEnded : InputValue → Type 0
HasEnded input = (text : List ℕ) (told : List InputRecord) → HasGiven text told input → AreAllOf text told

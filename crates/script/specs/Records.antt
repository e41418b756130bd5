-- The comma-separated records of a text.
use Rattle.std.specs.Prelude.{ℕ, List, [], ◌∷◌, ⊤}
use Rattle.csv.specs.Reading.{default_config, records, strip_bom}
use Rattle.csv.specs.Records.{AllText}
use Rattle.script.specs.declared.cause.Cause.{Cause}
use Rattle.script.specs.declared.cause.Cause.TheVariants.{CannotRead, Misplaced, Misspelled, NoMemory, NotText}

-- the records of a text, each with its fields; no line of it is a header
abbrev pub records_of : List ℕ → List (List (List ℕ))
records_of text = records default_config (strip_bom text)

-- there is a first record, and it isn't UTF-8
abbrev pub BeginsWithBytes : List (List (List ℕ)) → Type 0
BeginsWithBytes [] = ⊥
BeginsWithBytes (fields ∷ rest) = ¬ (AllText fields)

-- why the first of the records is not read
abbrev pub FailsToRead : List (List (List ℕ)) → Cause → Type 0
FailsToRead records NotText = BeginsWithBytes records
FailsToRead records Misspelled = ⊥
FailsToRead records (Misplaced name) = ⊥
FailsToRead records NoMemory = ⊤
FailsToRead records CannotRead = ⊤

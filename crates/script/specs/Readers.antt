-- A reader of the records of a text.
use denote.Ref.{Bor}
use Rattle.std.specs.Prelude.{◌≡◌, ℕ, ◌+◌, true, false, List, [], length, Option, Some, None, ⊤}
use Rattle.csv.specs.Reading.{Ready, default_config, has_failed, is_flexible, reader_config, reader_state, reader_trim, records_from, source_of}
use Rattle.csv.specs.declared.error.ErrorKind.{ErrorKind}
use Rattle.csv.specs.declared.error.ErrorKind.TheVariants.{Deserialize, Io, OutOfMemory, Serialize, UnequalLengths, Utf8}
use Rattle.csv.specs.declared.parser.State.{State}
use Rattle.csv.specs.declared.reader.Reader.{Reader}
use Rattle.csv.specs.declared.reader.Trim.TheVariants as trim
use Rattle.script.specs.declared.cause.Cause.{Cause}
use Rattle.script.specs.declared.cause.Cause.TheVariants.{CannotRead, NoMemory, NotText}

-- the records of the bytes that are left in that state, if there are any
abbrev pub records_in : State → Option (List ℕ) → List (List (List ℕ))
records_in state None = []
records_in state (Some bytes) = records_from default_config (length bytes + 1) state bytes

-- the records that the reader has still to give
abbrev pub records_left : Reader (Bor (List ℕ)) → List (List (List ℕ))
records_left reader = records_in (reader_state reader) (source_of (λ text. Some text.now) reader)

-- the reader stands before a record or the end of the text, and takes records of any number of fields as they are
pub record IsAtRecord (reader : Reader (Bor (List ℕ))) : Type 0 where
  pub config : reader_config reader ≡ default_config
  pub untrimmed : reader_trim reader ≡ trim.None
  pub flexible : is_flexible reader ≡ true
  pub ready : Ready reader

-- the same, unless the reader has failed and gives no more records
abbrev pub Reads : Reader (Bor (List ℕ)) → Type 0
Reads reader = has_failed reader ≡ false → IsAtRecord reader

-- the error may come of a read of a record, of any number of fields
abbrev pub IsReadError : ErrorKind → Type 0
IsReadError (Utf8 place error) = ⊤
IsReadError (Io error) = ⊤
IsReadError OutOfMemory = ⊤
IsReadError (UnequalLengths place expected len) = ⊥
IsReadError (Serialize text) = ⊥
IsReadError (Deserialize place error) = ⊥

-- why a record was not read; only the first three come of a read
abbrev pub cause_of : ErrorKind → Cause
cause_of (Utf8 place error) = NotText
cause_of OutOfMemory = NoMemory
cause_of (Io error) = CannotRead
cause_of (UnequalLengths place expected len) = CannotRead
cause_of (Serialize text) = CannotRead
cause_of (Deserialize place error) = CannotRead

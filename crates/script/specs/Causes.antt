-- Why the reading of a script stops at a record.
use Rattle.std.specs.Prelude.{ℕ}
use Rattle.script.specs.declared.cause.Cause.{Cause}
use Rattle.script.specs.declared.cause.Cause.TheVariants as cause
use Rattle.script.specs.declared.record_error.RecordError.{RecordError}
use Rattle.script.specs.declared.record_error.RecordError.TheVariants as record_error
use Rattle.script.specs.declared.script_error.ScriptError.{ScriptError}
use Rattle.script.specs.declared.script_error.ScriptError.TheVariants as script_error

-- the error of the script whose record of that number was not taken
abbrev pub error_at : ℕ → Cause → ScriptError
error_at number cause.NotText = script_error.Bad number
error_at number cause.Misspelled = script_error.Bad number
error_at number (cause.Misplaced name) = script_error.Bad number
error_at number cause.NoMemory = script_error.NoMemory
error_at number cause.CannotRead = script_error.CannotRead

-- the same, of a record whose fields were refused
abbrev pub record_cause : RecordError → Cause
record_cause record_error.Misspelled = cause.Misspelled
record_cause record_error.NoMemory = cause.NoMemory

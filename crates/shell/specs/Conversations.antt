-- What a conversation does: which records it answers, and what their commands do to its table.
use Rattle.std.specs.Prelude.{◌≡◌, ◌⊎◌, ℕ, ◌+◌, List, [], ◌∷◌, ◌++◌, map, length, None, string_bytes, codes, ⊤}
use Rattle.std.specs.List.{All}
use Rattle.keybytes.specs.Faults.{RefusedFor}
use Rattle.keybytes.specs.declared.fault.Fault.{Fault}
use Rattle.heap_table.specs.HeapState.{HeapState}
use Rattle.script.specs.Scripts.{commands_from}
use Rattle.script.specs.declared.input_record.InputRecord.{InputRecord}
use Rattle.script.specs.declared.input_record.InputRecord.TheVariants.{Good, Word, Bad}
use Rattle.script.specs.declared.line.Line.{Line}
use Rattle.script.specs.declared.line.Line.TheVariants.{PassedOver, Table as TableLine, Command as CommandLine}
use Rattle.script.specs.declared.numbered_command.NumberedCommand.{NumberedCommand}
use Rattle.script.specs.declared.table.Table.{Table}
use Rattle.replay.specs.Limits.{table_refusal}
use Rattle.replay.specs.Sessions.{Runs, RunsAll, RunsOn, ScriptState, empty_heap_of, number_of}
use Rattle.replay.specs.declared.answer.Answer.{Answer}
use Rattle.replay.specs.declared.answer.Answer.TheVariants as answer
use Rattle.replay.specs.declared.status.Status.{Status}
use Rattle.replay.specs.declared.status.Status.TheVariants.{Done}
use Rattle.shell.specs.Counting.{asked_by, counts_after}
use Rattle.shell.specs.Inputs.{AreAllOf, AreFirstOf, Gives, HasGiven, InputValue}
use Rattle.shell.specs.declared.before_table.BeforeTable.{BeforeTable}
use Rattle.shell.specs.declared.before_table.BeforeTable.TheVariants.{NoTable, Made, Quits}
use Rattle.shell.specs.declared.counts.Counts.{Counts}

-- the line of a script that a record is; what is none counts as passed over
abbrev pub line_in : InputRecord → Line
line_in (Good line) = line
line_in (Word text) = PassedOver
line_in (Bad explanation) = PassedOver

-- the commands among the records, each with its number, where the first record has that number
abbrev pub commands_told : ℕ → List InputRecord → List NumberedCommand
commands_told number told = commands_from number (map line_in told)

-- the record ends the conversation
abbrev pub IsQuit : InputRecord → Type 0
IsQuit (Good line) = ⊥
IsQuit (Word text) = string_bytes text ≡ codes "quit"
IsQuit (Bad explanation) = ⊥

-- none of the records ends it
abbrev pub GoesOn : List InputRecord → Type 0
GoesOn told = All (λ one. ¬ (IsQuit one)) told

-- the records are those of a conversation over the text: all of the text's, or those up to the first quit
abbrev pub AreAnswered : List ℕ → List InputRecord → Type 0
AreAnswered text told =
    (AreAllOf text told × GoesOn told)
    ⊎ ((before : List InputRecord) × (quit : InputRecord) × (told ≡ before ++ quit ∷ []) × GoesOn before × IsQuit quit × AreFirstOf text told)

-- the record makes no table: if it is one, it is refused
abbrev pub MakesNone : InputRecord → Type 0
MakesNone (Good PassedOver) = ⊤
MakesNone (Good (TableLine table)) = (fault : Fault) × RefusedFor (table_refusal table) fault
MakesNone (Good (CommandLine command)) = ⊤
MakesNone (Word text) = ⊤
MakesNone (Bad explanation) = ⊤

-- the first table that isn't refused is made, the commands behind it are run on it, and end with that status; or there is no such table
abbrev pub EndsTalk : List InputRecord → Status → Type 0
EndsTalk told status =
    (All MakesNone told × (status ≡ Done))
    ⊎ ((before : List InputRecord) × (table : Table) × (behind : List InputRecord)
    × (told ≡ before ++ Good (TableLine table) ∷ behind) × All MakesNone before × (table_refusal table ≡ None)
    × RunsOn (empty_heap_of table) (commands_told (length before + 2) behind) status)

-- a conversation over the text ends with that status
abbrev pub Leaves : List ℕ → Status → Type 0
Leaves text status = (told : List InputRecord) × AreAnswered text told × EndsTalk told status

-- the exit status of a conversation over the text: 2, or that with which the conversation ends
abbrev pub LeavesWith : List ℕ → ℕ → Type 0
LeavesWith text number = (number ≡ 2) ⊎ ((status : Status) × Leaves text status × (number ≡ number_of status))

-- from that moment on the input gave these records, with which the conversation was over
abbrev pub Finishes : InputValue → List InputRecord → Type 0
Finishes input told = (text : List ℕ) (before : List InputRecord) → HasGiven text before input → GoesOn before → AreAnswered text (before ++ told)

-- from that moment on the conversation ended with that status, where nothing had been given before
abbrev pub EndsFrom : InputValue → Status → Type 0
EndsFrom input status = (told : List InputRecord) × Finishes input told × EndsTalk told status

-- what comes behind a record while there is no table
abbrev pub ComesBehind : InputRecord → BeforeTable → Type 0
ComesBehind one NoTable = MakesNone one × ¬ (IsQuit one)
ComesBehind one (Made slot_limit parts) =
    (table : Table) × (one ≡ Good (TableLine table)) × (table_refusal table ≡ None) × (parts.heap ≡ empty_heap_of table)
    × (slot_limit ≡ table.slot_limit)
ComesBehind one Quits = IsQuit one

-- a table is answered: it is made, with that slot limit; or the fault that refuses it is told
abbrev pub AnswersTable : Table → Answer → BeforeTable → Type 0
AnswersTable table given NoTable = (fault : Fault) × (given ≡ answer.Refused fault) × RefusedFor (table_refusal table) fault
AnswersTable table given (Made slot_limit parts) =
    (given ≡ answer.Done) × (table_refusal table ≡ None) × (parts.heap ≡ empty_heap_of table) × (slot_limit ≡ table.slot_limit)
AnswersTable table given Quits = ⊥

-- the conversation was over before a table was made
abbrev pub EndsBefore : InputValue → Type 0
EndsBefore input = (told : List InputRecord) × Finishes input told × All MakesNone told

-- a table of that slot limit and that heap was made, by the record that the input gave last
pub record MakesTable (old new : InputValue) (slot_limit : ℕ) (heap : HeapState) : Type 0 where
  pub before : List InputRecord
  pub table : Table
  pub gives : Gives old (before ++ Good (TableLine table) ∷ []) new
  pub goes : GoesOn before
  pub none : All MakesNone before
  pub accepted : table_refusal table ≡ None
  pub empty : heap ≡ empty_heap_of table
  pub limit : slot_limit ≡ table.slot_limit

-- the records from that moment on were answered on a table, which stood so before and stands so now
abbrev pub TalksOn : InputValue → ScriptState → ScriptState → Type 0
TalksOn input old new = (told : List InputRecord) × Finishes input told × RunsAll old (commands_told (input.given + 1) told) new

-- the records from that moment on were answered on a table of that heap, and it went so
abbrev pub EndsOn : InputValue → HeapState → Status → Type 0
EndsOn input heap status = (told : List InputRecord) × Finishes input told × RunsOn heap (commands_told (input.given + 1) told) status

-- a line is answered on a table, which stood so before and stands so now, and the counts follow the answer
abbrev pub CountsFollow : Line → ScriptState → Counts → ScriptState → Counts → Type 0
CountsFollow PassedOver old before new after = after ≡ before
CountsFollow (TableLine table) old before new after = after ≡ before
CountsFollow (CommandLine command) old before new after =
    (given : Answer) × Runs old command given new × (after ≡ counts_after before (asked_by command) given)

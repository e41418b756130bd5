-- The table of a script with its labels and its status: before the script, after a command, and after all of them.
use Rattle.std.specs.Prelude.{◌≡◌, ◌≢◌, ℕ, List, [], ◌∷◌, None, Some, Result, ◌⊎◌, if◌then◌else◌}
use Rattle.std.specs.List.{list_any}
use Rattle.keybytes.specs.Faults.{RefusedFor}
use Rattle.keybytes.specs.declared.fault.Fault.{Fault}
use Rattle.keybytes.specs.declared.fault.Fault.TheVariants.{Memory}
use Rattle.heap_table.specs.HeapState.{HeapState, empty_heap}
use Rattle.heap_table.specs.Limits.{pages_most}
use Rattle.build_events.specs.CoreState.{CoreState, LiveState, opening}
use Rattle.run_spool.specs.declared.choice.SpoolChoice.{SpoolChoice}
use Rattle.run_spool.specs.declared.choice.SpoolChoice.TheVariants.{Plain}
use Rattle.script.specs.declared.command.Command.{Command}
use Rattle.script.specs.declared.command.Command.TheVariants.{Row, Begin, Insert, Update, Delete, Undo, Commit, Get, Start as StartCommand, Spools, Scan, Digest}
use Rattle.script.specs.declared.command.Command.TheVariants.{Seal, Load, Feed, Apply, Fence, Switch, Abandon, Side, Pairs, Rest}
use Rattle.script.specs.declared.numbered_command.NumberedCommand.{NumberedCommand}
use Rattle.script.specs.Scripts.{SpellsScript}
use Rattle.script.specs.declared.script.Script.{Script}
use Rattle.script.specs.declared.table.Table.{Table}
use Rattle.replay.specs.Answers.{CarriesOut, answer_of}
use Rattle.replay.specs.Labels.{NamesNone, NamesSame, Renames}
use Rattle.leased_core.specs.Leasing.{no_spools}
use Rattle.replay.specs.Limits.{is_refusal, table_refusal}
use Rattle.replay.specs.declared.answer.Answer.{Answer}
use Rattle.replay.specs.declared.answer.Answer.TheVariants as answer
use Rattle.replay.specs.declared.labels.Labels.{Labels}
use Rattle.replay.specs.declared.session.Session.{Session}
use Rattle.replay.specs.declared.status.Status.{Status}
use Rattle.replay.specs.declared.status.Status.TheVariants.{Done, IndexRefused, Failed}

-- an empty heap of as many pages as may be: no transaction was begun on it, and no row given out
abbrev pub empty_heap_of : Table → HeapState
empty_heap_of table = empty_heap table.kinds.items table.slot_limit pages_most

-- the table with that heap, no index and no build
abbrev pub bare_table : HeapState → LiveState
bare_table heap = record { heap = heap; ready = []; builds = 0; build = None }

-- a table, the transactions on it that a script has named, the kind of spools that it has chosen, and how it has gone so far
pub record ScriptState : Type 0 where
  pub core : CoreState
  pub labels : Labels
  pub choice : SpoolChoice
  pub status : Status

-- the same of a table and a session on it
abbrev pub state_of : CoreState → Session → ScriptState
state_of core session = record { core = core; labels = session.labels; choice = session.choice; status = session.status }

-- nothing has happened yet, and spools are plain
pub record IsNew (session : Session) : Type 0 where
  pub labels : NamesNone session.labels
  pub choice : session.choice ≡ Plain
  pub status : session.status ≡ Done

-- a begin leaves the label with the transaction that has begun, or with none where it is refused
abbrev pub NamesBegun : Labels → List ℕ → Answer → Labels → Type 0
NamesBegun old label given new =
    ((txn : ℕ) × (given ≡ answer.Number txn) × Renames old label (Some txn) new)
    ⊎ ((fault : Fault) × (given ≡ answer.Refused fault) × Renames old label None new)

-- a begin that wants memory leaves each label with what it named
abbrev pub NotesBegin : Labels → List ℕ → Answer → Labels → Type 0
NotesBegin old label given new =
    ((given ≡ answer.Refused Memory) × NamesSame old new) ⊎ ((given ≢ answer.Refused Memory) × NamesBegun old label given new)

-- what a command leaves of the labels
abbrev pub NotesCommand : Labels → Command → Answer → Labels → Type 0
NotesCommand old (Row cells) given new = new ≡ old
NotesCommand old (Begin label) given new = NotesBegin old label given new
NotesCommand old (Insert label cells) given new = new ≡ old
NotesCommand old (Update label rid cells) given new = new ≡ old
NotesCommand old (Delete label rid) given new = new ≡ old
NotesCommand old (Undo label) given new = new ≡ old
NotesCommand old (Commit label) given new = new ≡ old
NotesCommand old (Get rid) given new = new ≡ old
NotesCommand old (StartCommand start) given new = new ≡ old
NotesCommand old (Spools choice) given new = new ≡ old
NotesCommand old (Scan range worker) given new = new ≡ old
NotesCommand old (Digest worker) given new = new ≡ old
NotesCommand old (Seal worker) given new = new ≡ old
NotesCommand old (Load index) given new = new ≡ old
NotesCommand old (Feed index most) given new = new ≡ old
NotesCommand old (Apply index most) given new = new ≡ old
NotesCommand old Fence given new = new ≡ old
NotesCommand old Switch given new = new ≡ old
NotesCommand old Abandon given new = new ≡ old
NotesCommand old (Side index) given new = new ≡ old
NotesCommand old (Pairs number) given new = new ≡ old
NotesCommand old (Rest spec) given new = new ≡ old

-- the kind of spools of the builds that start after a command: that of the last record `spools`
abbrev pub choice_after : SpoolChoice → Command → SpoolChoice
choice_after chosen (Spools choice) = choice
choice_after chosen (Row cells) = chosen
choice_after chosen (Begin label) = chosen
choice_after chosen (Insert label cells) = chosen
choice_after chosen (Update label rid cells) = chosen
choice_after chosen (Delete label rid) = chosen
choice_after chosen (Undo label) = chosen
choice_after chosen (Commit label) = chosen
choice_after chosen (Get rid) = chosen
choice_after chosen (StartCommand start) = chosen
choice_after chosen (Scan range worker) = chosen
choice_after chosen (Digest worker) = chosen
choice_after chosen (Seal worker) = chosen
choice_after chosen (Load index) = chosen
choice_after chosen (Feed index most) = chosen
choice_after chosen (Apply index most) = chosen
choice_after chosen Fence = chosen
choice_after chosen Switch = chosen
choice_after chosen Abandon = chosen
choice_after chosen (Side index) = chosen
choice_after chosen (Pairs number) = chosen
choice_after chosen (Rest spec) = chosen

-- how the script has gone after an answer: a switch may have refused an index
abbrev pub status_after : Status → Answer → Status
status_after status answer.Done = status
status_after status (answer.Number number) = status
status_after status (answer.Row rid) = status
status_after status (answer.Written number rid) = status
status_after status (answer.Undone number left) = status
status_after status (answer.Cells row) = status
status_after status (answer.Switched number verdicts pages) = if list_any is_refusal verdicts then IndexRefused else status
status_after status (answer.SomeRefused number verdicts lines pages) = IndexRefused
status_after status (answer.Pairs lines) = status
status_after status (answer.Entries lines) = status
status_after status (answer.Abandoned pages) = status
status_after status (answer.Refused fault) = status

-- the command is run and answered
pub record Runs (old : ScriptState) (command : Command) (given : Answer) (new : ScriptState) : Type 0 where
  pub core : CarriesOut old.labels old.choice command old.core given new.core
  pub labels : NotesCommand old.labels command given new.labels
  pub choice : new.choice ≡ choice_after old.choice command
  pub status : new.status ≡ status_after old.status given

-- the command is run, and answered as the result says
abbrev pub Answers : ScriptState → Command → Result Answer Fault → ScriptState → Type 0
Answers old command result new = Runs old command (answer_of result) new

-- the next command of a script is run
abbrev pub RunsNext : ScriptState → NumberedCommand → ScriptState → Type 0
RunsNext old next new = (given : Answer) × Runs old next.command given new

-- the commands are run one after the other
abbrev pub RunsAll : ScriptState → List NumberedCommand → ScriptState → Type 0
RunsAll old [] new = new ≡ old
RunsAll old (first ∷ rest) new = (mid : ScriptState) × RunsNext old first mid × RunsAll mid rest new

-- commands run on a table of that heap, on which nothing has happened, end with that status
pub record RunsOn (heap : HeapState) (commands : List NumberedCommand) (status : Status) : Type 0 where
  pub begun : Session
  pub end : ScriptState
  pub new : IsNew begun
  pub run : RunsAll (state_of (opening (bare_table heap) no_spools) begun) commands end
  pub ended : status ≡ end.status

-- commands run on a table of their own end with that status; a refused table fails, and no command is run
abbrev pub EndsWith : Table → List NumberedCommand → Status → Type 0
EndsWith table commands status =
    ((fault : Fault) × RefusedFor (table_refusal table) fault × (status ≡ Failed)) ⊎ RunsOn (empty_heap_of table) commands status

-- a status as a number
abbrev pub number_of : Status → ℕ
number_of Done = 0
number_of IndexRefused = 1
number_of Failed = 2

-- the exit status of a text: 2, or that of the script that the text spells
abbrev pub ExitsWith : List ℕ → ℕ → Type 0
ExitsWith text number =
    (number ≡ 2)
    ⊎ ((script : Script) × (status : Status) × SpellsScript text script × EndsWith script.table script.commands.items status × (number ≡ number_of status))

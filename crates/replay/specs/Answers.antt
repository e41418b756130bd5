-- What a command does to the table, and what it is answered. A word of this file that ends with a table, an answer and a
-- table says of the three what stands before a command, what it is answered and what it leaves.
use Rattle.std.specs.Prelude.{true, ◌≡◌, ℕ, zero, suc, false, Vec, List, [], Option, Some, None, Result, Ok, Err, ◌⊎◌}
use Rattle.keybytes.specs.Faults.{RefusedFor}
use Rattle.keybytes.specs.Rows.{row_refusal}
use Rattle.keybytes.specs.declared.cell.Cell.{Cell}
use Rattle.keybytes.specs.declared.fault.Fault.{Fault}
use Rattle.keybytes.specs.declared.fault.Fault.TheVariants.{Memory, NoSuchTxn}
use Rattle.keybytes.specs.declared.rid.Rid.{Rid}
use Rattle.heap_log.specs.Standing.{live_at}
use Rattle.heap_log.specs.declared.outcome.Outcome.{Outcome}
use Rattle.heap_table.specs.HeapState.{after_visit, is_open, row_missing}
use Rattle.build_events.specs.CoreState.{CoreState, with_heap}
use Rattle.std.specs.List.{list_any}
use Rattle.std.specs.declared.alloc.Global.{Global}
use Rattle.build_events.specs.BuildSteps.{OnBuild}
use Rattle.build_events.specs.Steps.{HasPageCause, Step}
use Rattle.build_events.specs.declared.event.Event.{Event}
use Rattle.build_events.specs.declared.event.Event.TheVariants as event
use Rattle.build_events.specs.declared.plan.Plan.{Plan}
use Rattle.build_events.specs.declared.reply.Reply.{Reply}
use Rattle.build_events.specs.declared.reply.Reply.TheVariants as reply
use Rattle.run_spool.specs.declared.choice.SpoolChoice.{SpoolChoice}
use Rattle.script.specs.declared.command.Command.{Command}
use Rattle.script.specs.declared.command.Command.TheVariants.{Row, Begin, Insert, Update, Delete, Undo, Commit, Get, Start as StartCommand, Spools, Scan, Digest}
use Rattle.script.specs.declared.command.Command.TheVariants.{Seal, Load, Feed, Apply, Fence, Switch, Abandon, Side, Pairs, Rest}
use Rattle.script.specs.declared.start.Start.{Start}
use Rattle.replay.specs.Labels.{named}
use Rattle.leased_core.specs.Leasing.{EndsBuild, FailsToStart, StartsOver, WantedLeasedPage}
use Rattle.replay.specs.Limits.{is_refusal}
use Rattle.replay.specs.Listings.{ListsIndex, ListsRest, ListsSide, ListsShared}
use Rattle.replay.specs.declared.shared_line.SharedLine.{SharedLine}
use Rattle.replay.specs.Plans.{IsPlanOf, planning_refusal}
use Rattle.replay.specs.declared.answer.Answer.{Answer}
use Rattle.replay.specs.declared.answer.Answer.TheVariants as answer
use Rattle.replay.specs.declared.labels.Labels.{Labels}

-- a reply as it is answered; behind a build no leased page is missing
abbrev pub answer_to : Reply → Answer
answer_to (reply.Begun txn) = answer.Number txn
answer_to (reply.Written number rid) = answer.Written number rid
answer_to (reply.Undone number left) = answer.Undone number left
answer_to (reply.Committed number) = answer.Number number
answer_to (reply.Started pages) = answer.Number pages
answer_to (reply.Scanned page) = answer.Number page
answer_to (reply.Digested images) = answer.Number images
answer_to (reply.Sealed images) = answer.Number images
answer_to (reply.Loaded pairs) = answer.Number pairs
answer_to (reply.Fed entries) = answer.Number entries
answer_to (reply.Applied entries) = answer.Number entries
answer_to (reply.Switched number verdicts) = answer.Switched number verdicts 0
answer_to reply.FenceSet = answer.Done
answer_to reply.Abandoned = answer.Abandoned 0
answer_to (reply.Refused fault) = answer.Refused fault

-- what a result answers: a fault is a refusal
abbrev pub answer_of : Result Answer Fault → Answer
answer_of (Ok given) = given
answer_of (Err fault) = answer.Refused fault

-- the fault is answered, and nothing changes
abbrev pub Refuses : Fault → CoreState → Answer → CoreState → Type 0
Refuses fault old given new = (given ≡ answer.Refused fault) × (new ≡ old)

-- where there is a cause, it is answered and nothing changes; else it goes on
abbrev pub Unless : Option Fault → (CoreState → Answer → CoreState → Type 0) → CoreState → Answer → CoreState → Type 0
Unless None GoesOn old given new = GoesOn old given new
Unless (Some fault) GoesOn old given new = Refuses fault old given new

-- where there is a transaction, it goes on with that; else there is no such one
abbrev pub OnTxn : Option ℕ → (ℕ → CoreState → Answer → CoreState → Type 0) → CoreState → Answer → CoreState → Type 0
OnTxn None GoesOn old given new = Refuses NoSuchTxn old given new
OnTxn (Some txn) GoesOn old given new = GoesOn txn old given new

-- the event happens: the table takes its step, and the reply is the answer; it tells of a missing page only where a spool was full, unless the build
-- was spoiled before
abbrev pub Happens : Event → CoreState → Answer → CoreState → Type 0
Happens asked old given new = (told : Reply) × Step old asked told new × HasPageCause WantedLeasedPage old asked told × (given ≡ answer_to told)

-- a transaction writes the row at the RID and commits
abbrev pub PutsRow : List Cell → ℕ → CoreState → Rid → CoreState → Type 0
PutsRow cells txn old rid new =
    (number : ℕ) × (written : CoreState) × (last : ℕ)
    × Step old (event.Insert txn cells) (reply.Written number rid) written × Step written (event.Commit txn) (reply.Committed last) new

-- the insert of a row is refused, or the commit behind it
abbrev pub FailsToPut : List Cell → ℕ → CoreState → Fault → CoreState → Type 0
FailsToPut cells txn old fault new =
    Step old (event.Insert txn cells) (reply.Refused fault) new
    ⊎ ((number : ℕ) × (rid : Rid) × (written : CoreState)
    × Step old (event.Insert txn cells) (reply.Written number rid) written × Step written (event.Commit txn) (reply.Refused fault) new)

-- a transaction's writes are undone, so many and one more, until it has ended or an undo is refused
abbrev pub TakesBack : ℕ → CoreState → ℕ → CoreState → Type 0
TakesBack zero old txn new =
    ((number : ℕ) × Step old (event.Undo txn) (reply.Undone number 0) new × (is_open new.live.heap.active txn ≡ false))
    ⊎ ((fault : Fault) × Step old (event.Undo txn) (reply.Refused fault) new)
TakesBack (suc more) old txn new =
    (number : ℕ) × (left : ℕ) × (mid : CoreState)
    × Step old (event.Undo txn) (reply.Undone number left) mid × TakesBack more mid txn new

-- a transaction of its own begins and puts the row in, or takes back what it wrote; or none begins
abbrev pub AddsRow : List Cell → CoreState → Answer → CoreState → Type 0
AddsRow cells old given new =
    ((txn : ℕ) × (begun : CoreState) × (rid : Rid)
    × (given ≡ answer.Row rid) × Step old event.Begin (reply.Begun txn) begun × PutsRow cells txn begun rid new)
    ⊎ ((txn : ℕ) × (begun : CoreState) × (fault : Fault) × (failed : CoreState) × (more : ℕ)
    × (given ≡ answer.Refused fault) × Step old event.Begin (reply.Begun txn) begun
    × FailsToPut cells txn begun fault failed × TakesBack more failed txn new)
    ⊎ ((fault : Fault) × (given ≡ answer.Refused fault) × Step old event.Begin (reply.Refused fault) new)

-- the row that stands at the RID is given, or there is none
abbrev pub GivesRow : Rid → CoreState → Answer → CoreState → Type 0
GivesRow rid old given new =
    ((row : List Cell) × (given ≡ answer.Cells row) × (live_at old.live.heap.log rid ≡ Some row) × (new ≡ with_heap old (after_visit old.live.heap)))
    ⊎ ((fault : Fault) × RefusedFor (row_missing (live_at old.live.heap.log rid)) fault × Refuses fault old given new)

-- a build starts over new spools of the kinds that are chosen; or that is refused, and nothing changes
abbrev pub StartsByPlan : SpoolChoice → ℕ → Plan → CoreState → Answer → CoreState → Type 0
StartsByPlan chosen quota plan old given new =
    ((pages : ℕ) × (given ≡ answer.Number pages) × StartsOver chosen quota plan old (reply.Started pages) new)
    ⊎ ((fault : Fault) × FailsToStart chosen quota plan old fault × Refuses fault old given new)

-- a build starts by the plan that is asked for, or there is no memory for the plan
abbrev pub StartsBuild : SpoolChoice → Start → CoreState → Answer → CoreState → Type 0
StartsBuild chosen start old given new =
    ((plan : Plan) × IsPlanOf old.live.heap.schema start plan × StartsByPlan chosen start.quota plan old given new) ⊎ Refuses Memory old given new

-- a switch decides: the build has ended, and no page of its spools is missing; of indexes that it refused lines tell, unless there was no memory for
-- them; or it is refused
abbrev pub Decides : CoreState → Answer → CoreState → Type 0
Decides old given new =
    ((number : ℕ) × (verdicts : List Outcome)
    × (given ≡ answer.Switched number verdicts 0) × (list_any is_refusal verdicts ≡ false) × EndsBuild event.Switch (reply.Switched number verdicts) old new)
    ⊎ ((number : ℕ) × (verdicts : List Outcome) × (lines : Vec SharedLine Global)
    × (given ≡ answer.SomeRefused number verdicts lines 0) × (OnBuild old.live.build (λ b. ListsShared 0 b.specs verdicts lines.items) ⊎ (lines.items ≡ []))
    × EndsBuild event.Switch (reply.Switched number verdicts) old new × (list_any is_refusal verdicts ≡ true))
    ⊎ ((fault : Fault) × (given ≡ answer.Refused fault) × Step old event.Switch (reply.Refused fault) new)

-- the build is given up, and no page of its spools is missing; or that is refused
abbrev pub GivesUp : CoreState → Answer → CoreState → Type 0
GivesUp old given new =
    ((given ≡ answer.Abandoned 0) × EndsBuild event.Abandon reply.Abandoned old new)
    ⊎ ((fault : Fault) × (given ≡ answer.Refused fault) × Step old event.Abandon (reply.Refused fault) new)

-- the command is carried out, with labels that name these transactions, and spools of the kinds that are chosen
abbrev pub CarriesOut : Labels → SpoolChoice → Command → CoreState → Answer → CoreState → Type 0
CarriesOut labels chosen (Row cells) old given new = Unless (row_refusal cells.items) (AddsRow cells.items) old given new
CarriesOut labels chosen (Begin label) old given new = Happens event.Begin old given new
CarriesOut labels chosen (Insert label cells) old given new =
    Unless (row_refusal cells.items) (OnTxn (named labels label) (λ txn. Happens (event.Insert txn cells.items))) old given new
CarriesOut labels chosen (Update label rid cells) old given new =
    Unless (row_refusal cells.items) (OnTxn (named labels label) (λ txn. Happens (event.Update txn rid cells.items))) old given new
CarriesOut labels chosen (Delete label rid) old given new = OnTxn (named labels label) (λ txn. Happens (event.Delete txn rid)) old given new
CarriesOut labels chosen (Undo label) old given new = OnTxn (named labels label) (λ txn. Happens (event.Undo txn)) old given new
CarriesOut labels chosen (Commit label) old given new = OnTxn (named labels label) (λ txn. Happens (event.Commit txn)) old given new
CarriesOut labels chosen (Get rid) old given new = GivesRow rid old given new
CarriesOut labels chosen (StartCommand start) old given new = Unless (planning_refusal old start) (StartsBuild chosen start) old given new
CarriesOut labels chosen (Spools choice) old given new = (given ≡ answer.Done) × (new ≡ old)
CarriesOut labels chosen (Scan range worker) old given new = Happens (event.Scan range worker) old given new
CarriesOut labels chosen (Digest worker) old given new = Happens (event.Digest worker) old given new
CarriesOut labels chosen (Seal worker) old given new = Happens (event.Seal worker) old given new
CarriesOut labels chosen (Load index) old given new = Happens (event.Load index) old given new
CarriesOut labels chosen (Feed index most) old given new = Happens (event.Feed index most) old given new
CarriesOut labels chosen (Apply index most) old given new = Happens (event.Apply index most) old given new
CarriesOut labels chosen Fence old given new = Happens event.Fence old given new
CarriesOut labels chosen Switch old given new = Decides old given new
CarriesOut labels chosen Abandon old given new = GivesUp old given new
CarriesOut labels chosen (Side index) old given new = ListsSide index old given new
CarriesOut labels chosen (Pairs number) old given new = ListsIndex number old given new
CarriesOut labels chosen (Rest spec) old given new = ListsRest spec old given new

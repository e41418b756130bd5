-- What each event does and why it is refused; one step, and a run of events.
use Rattle.std.specs.Prelude.{◌≡◌, ℕ, false, List, [], ◌∷◌, ◌⊎◌, Option, Some, None, Result, Ok, Err}
use Rattle.keybytes.specs.Faults.{first_cause}
use Rattle.keybytes.specs.declared.cell.Cell.{Cell}
use Rattle.keybytes.specs.declared.fault.Fault.{Fault}
use Rattle.keybytes.specs.declared.fault.Fault.TheVariants.{NoPage, Memory}
use Rattle.keybytes.specs.declared.rid.Rid.{Rid}
use Rattle.heap_log.specs.Standing.{live_at}
use Rattle.heap_table.specs.Calls.{Begins, Inserts, Updates, Deletes, Undoes, Commits}
use Rattle.heap_table.specs.HeapState.{HeapState, begin_refusal, insert_refusal, update_refusal, txn_refusal, delete_refusal, undo_refusal}
use Rattle.build_events.specs.declared.event.Event.{Event}
use Rattle.build_events.specs.declared.event.Event.TheVariants.{Begin, Insert, Update, Delete, Undo, Commit, Start, Scan, Digest, Seal, Load, Feed, Apply, Fence, Switch, Abandon}
use Rattle.build_events.specs.declared.reply.Reply.{Reply}
use Rattle.build_events.specs.declared.reply.Reply.TheVariants.{Begun, Written, Undone, Committed, Started, Scanned, Digested, Sealed, Loaded, Fed, Applied, Switched, FenceSet, Abandoned, Refused}
use Rattle.build_events.specs.CoreState.{LiveState, CoreState, live_with_heap, with_live, spoiled_work}
use Rattle.build_events.specs.Workers.{index_at}
use Rattle.ready_indexes.specs.KeyCauses.{keys_refusal}
use Rattle.build_events.specs.BuildSteps.{Abandons, Applies, AppliesSome, CatchesUp, Digests, Feeds, Loads, Scans, Seals, Starts, Switches, Waits, apply_refusal, build_cause, fenced, index_refusal, load_refusal, scan_refusal, start_refusal, switch_refusal, worker_refusal}
use Rattle.ready_indexes.specs.Indexes.{ready_now}

-- Writes, undos and commits.

-- why a table with its indexes refuses to insert a row
abbrev pub row_refusal : LiveState → ℕ → List Cell → Option Fault
row_refusal live txn cells = first_cause (insert_refusal live.heap txn cells) (keys_refusal 0 live.ready live.heap.log txn None (Some cells))

-- why it refuses to give a RID another row
abbrev pub change_refusal : LiveState → ℕ → Rid → List Cell → Option Fault
change_refusal live txn rid cells =
    first_cause (update_refusal live.heap txn rid cells) (keys_refusal 0 live.ready live.heap.log txn (live_at live.heap.log rid) (Some cells))

-- a call of the heap that leaves the rows as they are, as a step of the table with its indexes
abbrev pub OnHeap : {R : Type 0} → (HeapState → R → HeapState → Type 0) → LiveState → R → LiveState → Type 0
OnHeap Does live answer new = Does live.heap answer new.heap × (new ≡ live_with_heap live new.heap)

-- a step of the table and its indexes beside which the workers do nothing
abbrev pub OnLive : {R : Type 0} → (LiveState → R → LiveState → Type 0) → CoreState → R → CoreState → Type 0
OnLive Does s answer new = Does s.live answer new.live × (new ≡ with_live s new.live)

-- a call of the heap that changes a row, as a step of the table: each ready index has the pairs of the rows that then stand and that it takes
abbrev pub OnRows : {R : Type 0} → (HeapState → R → HeapState → Type 0) → LiveState → R → LiveState → Type 0
OnRows Does live answer new =
    Does live.heap answer new.heap × (new ≡ record live { heap = new.heap; ready = ready_now new.heap.log live.ready })

-- All events.

-- why an event is refused: the first of its causes
abbrev pub refusal : CoreState → Event → Option Fault
refusal s Begin = begin_refusal s.live.heap
refusal s (Insert txn row) = row_refusal s.live txn row
refusal s (Update txn rid row) = change_refusal s.live txn rid row
refusal s (Delete txn rid) = delete_refusal s.live.heap txn rid
refusal s (Undo txn) = undo_refusal s.live.heap txn
refusal s (Commit txn) = txn_refusal s.live.heap txn
refusal s (Start plan) = start_refusal s.live s.spools plan
refusal s (Scan range worker) = build_cause s.live.build (λ b. scan_refusal b s.work range worker)
refusal s (Digest worker) = build_cause s.live.build (λ b. worker_refusal b s.work worker)
refusal s (Seal worker) = build_cause s.live.build (λ b. worker_refusal b s.work worker)
refusal s (Load index) = build_cause s.live.build (λ b. load_refusal b s index)
refusal s (Feed index most) = build_cause s.live.build (λ b. index_refusal b index)
refusal s (Apply index most) = build_cause s.live.build (λ b. apply_refusal b s.work index)
refusal s Switch = build_cause s.live.build (λ b. switch_refusal b s.live.heap s.work)
refusal s Fence = build_cause s.live.build (λ b. None)
refusal s Abandon = build_cause s.live.build (λ b. None)

-- the reply to an event tells what that relation answers
abbrev pub Tells : {R : Type 0} → (R → Reply) → (CoreState → R → CoreState → Type 0) → CoreState → Reply → CoreState → Type 0
Tells {R} told Does s reply new = (answer : R) × (reply ≡ told answer) × Does s answer new

-- what an event does that is not refused: its reply, and the state that it leaves
abbrev pub Does : CoreState → Event → Reply → CoreState → Type 0
Does s Begin reply new = Tells Begun (OnLive (OnHeap Begins)) s reply new
Does s (Insert txn row) reply new = Tells (λ w. Written w.0 w.1) (OnLive (OnRows (Inserts txn row))) s reply new
Does s (Update txn rid row) reply new = Tells (λ w. Written w.0 w.1) (OnLive (OnRows (Updates txn rid row))) s reply new
Does s (Delete txn rid) reply new = Tells (λ w. Written w.0 w.1) (OnLive (OnRows (Deletes txn rid))) s reply new
Does s (Undo txn) reply new = Tells (λ undone. Undone undone.number undone.left) (OnLive (OnRows (Undoes txn))) s reply new
Does s (Commit txn) reply new = Tells Committed (OnLive (OnHeap (Commits txn))) s reply new
Does s (Start plan) reply new = Tells Started (Starts plan) s reply new
Does s (Scan range worker) reply new = Tells Scanned (OnLive (Scans range worker)) s reply new
Does s (Digest worker) reply new = Tells Digested (Digests worker) s reply new
Does s (Seal worker) reply new = Tells Sealed (Seals worker) s reply new
Does s (Load index) reply new = Tells Loaded (Loads index) s reply new
Does s (Feed index most) reply new = Tells Fed (Feeds index most) s reply new
Does s (Apply index most) reply new = Tells Applied (Applies index most) s reply new
Does s Switch reply new = Tells (λ told. Switched told.0 told.1) Switches s reply new
Does s Fence reply new = (reply ≡ FenceSet) × (new ≡ with_live s (fenced s.live))
Does s Abandon reply new = (reply ≡ Abandoned) × Abandons s new

-- the build can't go on for that fault
abbrev pub spoiled_by : Fault → CoreState → CoreState
spoiled_by fault s = record s { work = spoiled_work fault s.work }

-- what may be wanted and not be there: memory, or a page for the pairs
abbrev pub IsWorkWant : Fault → Type 0
IsWorkWant fault = (fault ≡ NoPage) ⊎ (fault ≡ Memory)

-- what an event may want: a page only where pairs are spooled
abbrev pub IsWant : Event → Fault → Type 0
IsWant Begin fault = fault ≡ Memory
IsWant (Insert txn row) fault = fault ≡ Memory
IsWant (Update txn rid row) fault = fault ≡ Memory
IsWant (Delete txn rid) fault = fault ≡ Memory
IsWant (Undo txn) fault = fault ≡ Memory
IsWant (Commit txn) fault = fault ≡ Memory
IsWant (Start plan) fault = fault ≡ Memory
IsWant (Scan range worker) fault = fault ≡ Memory
IsWant (Digest worker) fault = IsWorkWant fault
IsWant (Seal worker) fault = IsWorkWant fault
IsWant (Load index) fault = fault ≡ Memory
-- to feed a ring takes no memory
IsWant (Feed index most) fault = ⊥
IsWant (Apply index most) fault = fault ≡ Memory
IsWant Switch fault = fault ≡ Memory
-- nor does it to set the fence, or to give a build up
IsWant Fence fault = ⊥
IsWant Abandon fault = ⊥

-- what want leaves: it changes nothing, but spoils a build whose pairs were being spooled or put in order, and what was applied stays
-- applied
abbrev pub AfterWant : Event → Fault → CoreState → CoreState → Type 0
AfterWant Begin fault s new = new ≡ s
AfterWant (Insert txn row) fault s new = new ≡ s
AfterWant (Update txn rid row) fault s new = new ≡ s
AfterWant (Delete txn rid) fault s new = new ≡ s
AfterWant (Undo txn) fault s new = new ≡ s
AfterWant (Commit txn) fault s new = new ≡ s
AfterWant (Start plan) fault s new = new ≡ s
AfterWant (Scan range worker) fault s new = new ≡ s
AfterWant (Digest worker) fault s new = Waits worker s × (new ≡ spoiled_by fault s)
-- to close runs takes no memory, so a seal may want it only for a copy
AfterWant (Seal worker) fault s new = (fault ≡ Memory → Waits worker s) × (new ≡ spoiled_by fault s)
AfterWant (Load index) fault s new = ((index_at s.work.indexes index).loaded ≡ false) × (new ≡ spoiled_by fault s)
AfterWant (Feed index most) fault s new = ⊥
AfterWant (Apply index most) fault s new = AppliesSome index most s new
AfterWant Switch fault s new = CatchesUp s new
AfterWant Fence fault s new = ⊥
AfterWant Abandon fault s new = ⊥

-- an event is refused for a fault: it has that cause, and nothing changes; or it has none, and wants what isn't there
abbrev pub IsRefused : CoreState → Event → Fault → CoreState → Type 0
IsRefused s event fault new =
    ((refusal s event ≡ Some fault) × (new ≡ s)) ⊎ ((refusal s event ≡ None) × IsWant event fault × AfterWant event fault s new)

-- a call for an event: what it answers is what the event's reply tells, or the fault of its refusal
abbrev pub AnswersBy : {R : Type 0} → (R → Reply) → CoreState → Event → Result R Fault → CoreState → Type 0
AnswersBy told s event (Ok answer) new = (refusal s event ≡ None) × Does s event (told answer) new
AnswersBy told s event (Err fault) new = IsRefused s event fault new

-- the reply itself, or that fault
abbrev pub Answers : CoreState → Event → Result Reply Fault → CoreState → Type 0
Answers s event answer new = AnswersBy (λ reply. reply) s event answer new

-- one event: it is refused, or it has no cause to be and is done
abbrev pub Step : CoreState → Event → Reply → CoreState → Type 0
Step s event reply new =
    ((fault : Fault) × (reply ≡ Refused fault) × IsRefused s event fault new) ⊎ ((refusal s event ≡ None) × Does s event reply new)

-- a step that tells of a missing page, in a build that wasn't spoiled before, had that cause
abbrev pub HasPageCause : (CoreState → Event → Type 0) → CoreState → Event → Reply → Type 0
HasPageCause MissedPage s event reply = reply ≡ Refused NoPage → s.work.spoiled ≡ None → MissedPage s event

-- one event after another; what a missing page comes from is told by that cause
abbrev pub Run : (CoreState → Event → Type 0) → CoreState → List Event → List Reply → CoreState → Type 0
Run MissedPage s [] [] new = new ≡ s
Run MissedPage s [] (reply ∷ replies) new = ⊥
Run MissedPage s (event ∷ events) [] new = ⊥
Run MissedPage s (event ∷ events) (reply ∷ replies) new =
    (mid : CoreState) × Step s event reply mid × HasPageCause MissedPage s event reply × Run MissedPage mid events replies new

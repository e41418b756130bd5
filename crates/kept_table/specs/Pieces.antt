-- What a piece of a build does.
use Rattle.std.specs.Prelude.{◌≡◌, ◌≢◌, ◌⊎◌, ℕ, ◌%◌, max, List, [], ◌∷◌, ◌++◌, All, Option, Some, None, IfSome}
use Rattle.keybytes.specs.declared.fault.Fault.{Fault}
use Rattle.keybytes.specs.declared.fault.Fault.TheVariants.{Behind, Busy, NoBuild, NotSealed, RingFull}
use Rattle.build_events.specs.BuildSteps.{OnBuild}
use Rattle.build_events.specs.CoreState.{BuildState, CoreState}
use Rattle.build_events.specs.Ranges.{open_range}
use Rattle.build_events.specs.Steps.{HasPageCause, IsWorkWant, Run, Step, refusal}
use Rattle.build_events.specs.Workers.{unloaded_index}
use Rattle.build_events.specs.declared.event.Event.{Event}
use Rattle.build_events.specs.declared.event.Event.TheVariants.{Begin, Insert, Update, Delete, Undo, Commit, Start, Scan, Digest, Seal, Load, Feed, Apply, Fence, Switch, Abandon}
use Rattle.build_events.specs.declared.reply.Reply.{Reply}
use Rattle.build_events.specs.declared.reply.Reply.TheVariants.{Refused}
use Rattle.leased_core.specs.Leasing.{WantedLeasedPage}
use Rattle.kept_table.specs.CatchingUp.{AreKept, Leaves, LeavesNoFewer, MovesEntries}
use Rattle.kept_table.specs.Decisions.{Decides, FailsToDecide}
use Rattle.kept_table.specs.KeptTables.{DecidedValue}

-- the event is of a build's own work: pages are copied, pairs made, runs closed, pairs put in order, and entries fed and applied
abbrev pub IsOfWork : Event → Type 0
IsOfWork Begin = ⊥
IsOfWork (Insert txn row) = ⊥
IsOfWork (Update txn rid row) = ⊥
IsOfWork (Delete txn rid) = ⊥
IsOfWork (Undo txn) = ⊥
IsOfWork (Commit txn) = ⊥
IsOfWork (Start plan) = ⊥
IsOfWork (Scan range worker) = Unit {0}
IsOfWork (Digest worker) = Unit {0}
IsOfWork (Seal worker) = Unit {0}
IsOfWork (Load index) = Unit {0}
IsOfWork (Feed index most) = Unit {0}
IsOfWork (Apply index most) = Unit {0}
IsOfWork Fence = ⊥
IsOfWork Switch = ⊥
IsOfWork Abandon = ⊥

-- the reply tells of no refusal
abbrev pub IsDone : Reply → Type 0
IsDone reply = (fault : Fault) → reply ≡ Refused fault → ⊥

-- events of a build's work, perhaps none, are done one after another
pub record WorksOn (old new : CoreState) : Type 0 where
  pub events : List Event
  pub of_work : All IsOfWork events
  pub replies : List Reply
  pub done : All IsDone replies
  pub run : Run (λ s event. Unit {0}) old events replies new

-- a page of the range is copied for the worker, which makes the pairs of one copy; where it has as many copies as it may, it only does that
abbrev pub IsCopy : ℕ → ℕ → CoreState → List Event → Type 0
IsCopy range worker s events =
    (events ≡ Scan range worker ∷ Digest worker ∷ []) ⊎ ((refusal s (Scan range worker) ≡ Some RingFull) × (events ≡ Digest worker ∷ []))

-- the pairs of the index are put in order; or, where a worker has not closed its runs, the lowest such worker does
abbrev pub IsOrdering : ℕ → CoreState → List Event → Type 0
IsOrdering index s events =
    (events ≡ Load index ∷ []) ⊎ ((worker : ℕ) × (refusal s (Load index) ≡ Some (NotSealed worker)) × (events ≡ Seal worker ∷ []))

-- how many entries fewer of an index a caller wants to wait, one at least
abbrev pub most_of : ℕ → ℕ
most_of most = max 1 most

-- while a range has a page left, a page of the lowest such range is copied, for the worker of its number modulo their number; then, while the pairs of
-- an index aren't in order, those of the lowest such index are put in order; then entries are fed and applied
abbrev pub IsPiece : BuildState → CoreState → Option ℕ → Option ℕ → List Event → Type 0
IsPiece b s (Some range) unloaded events = IsCopy range (range % b.workers) s events
IsPiece b s None (Some index) events = IsOrdering index s events
IsPiece b s None None events = All MovesEntries events

-- these events are the next piece of the build that runs
abbrev pub IsDue : CoreState → List Event → Type 0
IsDue s events = OnBuild s.live.build (λ b. IsPiece b s (open_range b) (unloaded_index s.work) events)

-- if a build runs, all its pages are copied, and the pairs of each index are in order
abbrev pub IsPrepared : CoreState → Type 0
IsPrepared s = IfSome s.live.build (λ b. (open_range b ≡ None) × (unloaded_index s.work ≡ None))

-- more entries are left than a switch applies
abbrev pub IsBehind : CoreState → Type 0
IsBehind s = (left : ℕ) × (refusal s Switch ≡ Some (Behind left))

-- the next piece of a build is done, and was not its last: where nothing else was left to do it caught up, and the switch is behind
pub record DoesPiece (most : ℕ) (waited : Option (List ℕ)) (old new : CoreState) : Type 0 where
  pub works : WorksOn old new
  pub due : IsDue old works.events
  -- it has an event at least
  pub some : works.events ≢ []
  pub leaves : IsPrepared old → Leaves (most_of most) waited old new
  pub behind : IsPrepared old → IsBehind new

-- behind a piece that caught up it is kept how many entries of each index wait; else what was kept stays
pub record NotesWaits (old : CoreState) (waited : Option (List ℕ)) (new : CoreState) (kept : Option (List ℕ)) : Type 0 where
  pub caught_up : IsPrepared old → AreKept new kept
  pub others : (IsPrepared old → ⊥) → kept ≡ waited

-- of those events the first ones are done, and the one after them is refused
pub record StopsWork (due : List Event) (old : CoreState) (fault : Fault) (new : CoreState) : Type 0 where
  pub mid : CoreState
  pub works : WorksOn old mid
  pub event : Event
  pub rest : List Event
  pub order : due ≡ works.events ++ event ∷ rest
  pub refused : Step mid event (Refused fault) new
  -- a page or memory is wanted, now or when the build was spoiled
  pub want : IsWorkWant fault
  -- and a page only where a spool of the event's worker was full, unless the build was spoiled before
  pub full : HasPageCause WantedLeasedPage mid event (Refused fault)

-- the next piece of a build isn't done to its end; where it catches up it doesn't apply more than a whole one
pub record StopsPiece (most : ℕ) (waited : Option (List ℕ)) (old : CoreState) (fault : Fault) (new : CoreState) : Type 0 where
  pub due : List Event
  pub is_due : IsDue old due
  pub stops : StopsWork due old fault new
  pub leaves : IsPrepared old → LeavesNoFewer (most_of most) waited old new

-- events of a build's work move entries on, until so many of each index are left
pub record CatchesUpBy (most : ℕ) (waited : Option (List ℕ)) (old new : CoreState) : Type 0 where
  pub works : WorksOn old new
  pub entries : All MovesEntries works.events
  pub leaves : Leaves most waited old new

-- the piece catches up, and the switch after that decides
pub record WorksToTheEnd (most : ℕ) (waited : Option (List ℕ)) (old : CoreState) (decided : DecidedValue) (new : CoreState) : Type 0 where
  pub mid : CoreState
  pub caught_up : CatchesUpBy (most_of most) waited old mid
  pub number : ℕ
  pub decides : Decides mid number decided new

-- the fault tells that no build runs, or how many transactions are busy that a unique index waits for, or that a page or memory is wanted
abbrev pub IsUndecided : Fault → Type 0
IsUndecided fault = (fault ≡ NoBuild) ⊎ (((busy : ℕ) × (fault ≡ Busy busy)) ⊎ IsWorkWant fault)

-- the piece catches up, which is kept, and the switch after that doesn't decide, for nothing but such a fault
pub record WorksInVain
    (most : ℕ) (waited : Option (List ℕ)) (old : CoreState) (fault : Fault) (new : CoreState) (kept : Option (List ℕ)) : Type 0 where
  pub mid : CoreState
  pub caught_up : CatchesUpBy (most_of most) waited old mid
  pub kept_is : AreKept mid kept
  pub fails : FailsToDecide mid fault new
  pub why : IsUndecided fault

-- a piece of a build ends with that fault; what was kept of how many entries wait stays, unless it caught up
abbrev pub FailsToAdvance : ℕ → Option (List ℕ) → CoreState → Fault → CoreState → Option (List ℕ) → Type 0
FailsToAdvance most waited old fault new kept =
    (StopsPiece most waited old fault new × (kept ≡ waited)) ⊎ WorksInVain most waited old fault new kept

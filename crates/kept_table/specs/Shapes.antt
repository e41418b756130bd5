-- What a build has, of all that an event of its work may ask for.
use Rattle.std.specs.Prelude.{◌≡◌, ◌⊎◌, ℕ, ◌<◌, true, List, [], ◌∷◌, length, is_some, Option, Some, None}
use Rattle.keybytes.specs.declared.fault.Fault.{Fault}
use Rattle.keybytes.specs.declared.fault.Fault.TheVariants.{NotSealed, RingFull}
use Rattle.build_events.specs.BuildSteps.{OnBuild}
use Rattle.build_events.specs.CoreState.{CoreState}
use Rattle.build_events.specs.Ranges.{next_page, open_range}
use Rattle.build_events.specs.Steps.{HasPageCause, IsWorkWant, Step, refusal}
use Rattle.build_events.specs.Workers.{index_at}
use Rattle.build_events.specs.declared.event.Event.{Event}
use Rattle.build_events.specs.declared.event.Event.TheVariants.{Begin, Insert, Update, Delete, Undo, Commit, Start, Scan, Digest, Seal, Load, Feed, Apply, Fence, Switch, Abandon}
use Rattle.build_events.specs.declared.reply.Reply.TheVariants.{Refused}
use Rattle.leased_core.specs.Leasing.{WantedLeasedPage}
use Rattle.kept_table.specs.Pieces.{IsCopy, IsOrdering, StopsWork, WorksOn}

-- so many workers has the build that runs
abbrev pub HasWorkers : ℕ → CoreState → Type 0
HasWorkers workers s = OnBuild s.live.build (λ b. workers ≡ b.workers)

-- that is its lowest range that has a page left to copy, or none has one
abbrev pub HasOpenRange : Option ℕ → CoreState → Type 0
HasOpenRange range s = OnBuild s.live.build (λ b. range ≡ open_range b)

-- it has that worker
abbrev pub HasWorker : ℕ → CoreState → Type 0
HasWorker worker s = OnBuild s.live.build (λ b. worker < b.workers)

-- it has that index
abbrev pub HasIndex : ℕ → CoreState → Type 0
HasIndex index s = OnBuild s.live.build (λ b. index < length b.specs)

-- it has that index, whose pairs are in order
abbrev pub HasLoaded : ℕ → CoreState → Type 0
HasLoaded index s = HasIndex index s × ((index_at s.work.indexes index).loaded ≡ true)

-- these events of a build's work are done
abbrev pub DoesAll : List Event → CoreState → CoreState → Type 0
DoesAll events old new = (works : WorksOn old new) × (works.events ≡ events)

-- a page of the range is copied for the worker, unless this has as many copies as it may
abbrev pub ScansIfRoom : ℕ → ℕ → CoreState → CoreState → Type 0
ScansIfRoom range worker old new =
    DoesAll (Scan range worker ∷ []) old new ⊎ ((refusal old (Scan range worker) ≡ Some RingFull) × (new ≡ old))

-- and then the worker makes the pairs of one copy
abbrev pub DoesCopy : ℕ → ℕ → CoreState → CoreState → Type 0
DoesCopy range worker old new = (works : WorksOn old new) × IsCopy range worker old works.events

-- that is the lowest worker that has not closed its runs, so that the pairs of the index can't be put in order yet
abbrev pub IsUnsealed : ℕ → ℕ → CoreState → Type 0
IsUnsealed index worker s = refusal s (Load index) ≡ Some (NotSealed worker)

-- the pairs of the index are put in order, or that worker closes its runs
abbrev pub PutsInOrder : ℕ → CoreState → CoreState → Type 0
PutsInOrder index old new = (works : WorksOn old new) × IsOrdering index old works.events

-- it has that range, and a page of it is left to copy
abbrev pub HasPageIn : ℕ → CoreState → Type 0
HasPageIn range s = OnBuild s.live.build (λ b. (range < length b.ends) × (is_some (next_page b range) ≡ true))

-- what the event of a build's work asks for is there
abbrev pub IsThere : Event → CoreState → Type 0
IsThere Begin s = ⊥
IsThere (Insert txn row) s = ⊥
IsThere (Update txn rid row) s = ⊥
IsThere (Delete txn rid) s = ⊥
IsThere (Undo txn) s = ⊥
IsThere (Commit txn) s = ⊥
IsThere (Start plan) s = ⊥
IsThere (Scan range worker) s = HasPageIn range s × HasWorker worker s
IsThere (Digest worker) s = HasWorker worker s
IsThere (Seal worker) s = HasWorker worker s
IsThere (Load index) s = HasIndex index s × HasOpenRange None s
IsThere (Feed index most) s = HasIndex index s
IsThere (Apply index most) s = HasLoaded index s
IsThere Fence s = ⊥
IsThere Switch s = ⊥
IsThere Abandon s = ⊥

-- the event only waits for another one: for a place among a worker's copies, or until a worker has closed its runs
abbrev pub IsPutOff : Event → Fault → Type 0
IsPutOff Begin fault = ⊥
IsPutOff (Insert txn row) fault = ⊥
IsPutOff (Update txn rid row) fault = ⊥
IsPutOff (Delete txn rid) fault = ⊥
IsPutOff (Undo txn) fault = ⊥
IsPutOff (Commit txn) fault = ⊥
IsPutOff (Start plan) fault = ⊥
IsPutOff (Scan range worker) fault = fault ≡ RingFull
IsPutOff (Digest worker) fault = ⊥
IsPutOff (Seal worker) fault = ⊥
IsPutOff (Load index) fault = (worker : ℕ) × (fault ≡ NotSealed worker)
IsPutOff (Feed index most) fault = ⊥
IsPutOff (Apply index most) fault = ⊥
IsPutOff Fence fault = ⊥
IsPutOff Switch fault = ⊥
IsPutOff Abandon fault = ⊥

-- an event is refused: it is put off, or a page or memory is wanted, now or when the build was spoiled
pub record IsHeldUp (s : CoreState) (event : Event) (fault : Fault) (new : CoreState) : Type 0 where
  pub refused : Step s event (Refused fault) new
  pub full : HasPageCause WantedLeasedPage s event (Refused fault)
  pub why : IsPutOff event fault ⊎ IsWorkWant fault

-- the copy of a page isn't done to its end
abbrev pub StopsCopy : ℕ → ℕ → CoreState → Fault → CoreState → Type 0
StopsCopy range worker old fault new = (due : List Event) × IsCopy range worker old due × StopsWork due old fault new

-- nor is it done to put the index in order
abbrev pub StopsOrdering : ℕ → CoreState → Fault → CoreState → Type 0
StopsOrdering index old fault new = (due : List Event) × IsOrdering index old due × StopsWork due old fault new

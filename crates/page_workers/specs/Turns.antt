-- What a worker does at its turn, a digest or a seal, and what it answers.
use Rattle.std.specs.Prelude.{◌≡◌, ◌⊎◌, ℕ, List, [], length, false, true, Option, Some, None, Result, IfOk, IfErr}
use Rattle.std.specs.List.{All}
use Rattle.keybytes.specs.Keys.{KeySpecValue}
use Rattle.keybytes.specs.declared.fault.Fault.{Fault}
use Rattle.keybytes.specs.declared.fault.Fault.TheVariants.{NoPage}
use Rattle.keybytes.specs.declared.kind.Kind.{Kind}
use Rattle.keybytes.specs.declared.pair.Pair.{Pair}
use Rattle.heap_table.specs.Images.{ImageValue}
use Rattle.spool_ledger.specs.Accounts.{Stake}
use Rattle.run_spool.specs.Spools.{NoPageOnlyIf}
use Rattle.run_maker.specs.Making.{AreReady, Holdings}
use Rattle.run_maker.specs.Spooling.{MemoryOnlyIf}
use Rattle.page_workers.specs.declared.turn.Turn.{Turn}
use Rattle.page_workers.specs.declared.turn.Turn.TheVariants.{Digest, Seal}
use Rattle.page_workers.specs.Holding.{AreHeldWith, HoldsMore, TakesAll, TakesUpTo}
use Rattle.page_workers.specs.IntakeValue.{IntakeValue}
use Rattle.page_workers.specs.SpoolValue.{HaveFullOf, open_runs_of, runs_of}
use Rattle.side_file.specs.Ends.{after_taking}
use Rattle.page_workers.specs.Work.{SeesMore, StopsAt, after_digest, after_seal, image_behind, next_images}
use Rattle.page_workers.specs.WorkerValue.{HasReceived, IsShortage, SameWorker, WorkerValue, holdings}

-- a worker looked into its ring, where it has now seen so many copies, and nothing else of it changed
pub record HasLooked (old : WorkerValue) (seen : ℕ) (new : WorkerValue) : Type 0 where
  pub same : SameWorker old new
  pub sees : SeesMore old.intake new.intake
  pub counted : seen ≡ length new.intake.end.known
  pub left : new ≡ record old { intake = new.intake }

-- how many of the copies that it has seen a worker takes
abbrev pub turn_copies : Turn → IntakeValue → ℕ
turn_copies Digest worker = 1
turn_copies Seal worker = length worker.end.known

-- the images of its build among them, of a table of these columns
abbrev pub turn_images : Turn → List Kind → IntakeValue → List ImageValue
turn_images turn kinds worker = next_images (turn_copies turn worker) kinds worker

-- at a seal all that it took counts as sealed
abbrev pub marked : Turn → IntakeValue → IntakeValue
marked Digest worker = worker
marked Seal worker = after_seal worker

-- they are taken
abbrev pub after_turn : Turn → List Kind → IntakeValue → IntakeValue
after_turn turn kinds worker = marked turn (after_digest (turn_copies turn worker) kinds worker)

-- how many pairs a run has at least that it closes; a digest closes full ones alone
abbrev pub least_pairs : Turn → ℕ
least_pairs Digest = 4096
least_pairs Seal = 1

-- each index is held with the pairs of these images more; a digest closes a run as soon as 4,096 are in none
abbrev pub TurnHolds : Turn → List KeySpecValue → List ImageValue → Holdings → Holdings → Type 0
TurnHolds Digest specs images old new = TakesAll specs images old new
TurnHolds Seal specs images old new = HoldsMore specs images old new

-- the pairs that were held of index i, with those of the images that an end took since
abbrev pub AreHeldWithTaken : List KeySpecValue → List Kind → IntakeValue → IntakeValue → Holdings → ℕ → List Pair → Type 0
AreHeldWithTaken specs kinds old new held i pairs =
    (n : ℕ) × (new.end ≡ after_taking n old.end) × AreHeldWith specs (next_images n kinds old) held i pairs

-- they were taken, so many of them of its build, their pairs are held, and a seal closed its runs
pub record HasTaken (turn : Turn) (images : ℕ) (old new : WorkerValue) : Type 0 where
  pub counted : images ≡ length (turn_images turn old.maker.schema old.intake)
  pub intake : new.intake ≡ after_turn turn old.maker.schema old.intake
  pub holds : TurnHolds turn old.maker.specs (turn_images turn old.maker.schema old.intake) (holdings old.maker old.spools) (holdings new.maker new.spools)
  pub closed : turn ≡ Seal → All (λ begun. begun ≡ []) new.maker.begun

-- a worker that no fault had stopped had its turn; once its spools are handed over it takes nothing
pub record HasDone (turn : Turn) (old : WorkerValue) (images : ℕ) (new : WorkerValue) : Type 0 where
  pub same : SameWorker old new
  pub sound : (old.fault ≡ None) × (new.fault ≡ None)
  pub took : old.handed ≡ false → HasTaken turn images old new
  pub nothing : old.handed ≡ true → (images ≡ 0) × (new ≡ record old { intake = marked turn old.intake })

-- a turn that is refused stops at a copy of its build, a digest at the next one; or a seal took them all, and wants a page as it closes its runs
abbrev pub StopsIn : Turn → List Kind → IntakeValue → IntakeValue → Fault → Type 0
StopsIn Digest kinds old new fault = StopsAt 0 kinds old new
StopsIn Seal kinds old new fault = ((n : ℕ) × StopsAt n kinds old new) ⊎ ((fault ≡ NoPage) × (new ≡ after_digest (length old.end.known) kinds old))

-- it stopped at a copy, and each index is held with the pairs of those before it more, and with the first of that copy's
abbrev pub HoldsPart : List KeySpecValue → List Kind → IntakeValue → IntakeValue → Holdings → Holdings → Type 0
HoldsPart specs kinds old new held now = (n : ℕ) × StopsAt n kinds old new × TakesUpTo specs (next_images n kinds old) (image_behind n kinds old) held now

module _
    {S : Type 0} (is_full : S → Pair → Type 0) (runs : S → List (List Pair)) (open_run : S → List Pair) (stake : S → Option Stake) where
  -- a worker was refused for that fault at its turn, and stopped
  pub record IsStopped (turn : Turn) (old : WorkerValue) (fault : Fault) (new : WorkerValue) : Type 0 where
    pub same : SameWorker old new
    pub stopped : new.fault ≡ Some fault
    pub short : IsShortage fault
    -- it is for the fault that stopped it before, if one did, and then nothing happens
    pub again : (first : Fault) → old.fault ≡ Some first → (fault ≡ first) × (new ≡ old)
    pub has_spools : old.fault ≡ None → old.handed ≡ false
    pub took : old.fault ≡ None → StopsIn turn old.maker.schema old.intake new.intake fault
    pub full : old.fault ≡ None → NoPageOnlyIf
        (HaveFullOf is_full runs open_run stake (least_pairs turn) (runs_of old.spools) (HasReceived new) new.spools) fault
    pub want : old.fault ≡ None → MemoryOnlyIf (AreReady (runs_of new.spools) (open_runs_of new.spools)) fault
    -- for want of memory no pair is lost, and no run is closed with fewer than 4,096
    pub part : old.fault ≡ None → MemoryOnlyIf
        (HoldsPart old.maker.specs old.maker.schema old.intake new.intake (holdings old.maker old.spools) (holdings new.maker new.spools)) fault

  -- a worker had its turn, or was refused
  abbrev pub AnswersTurn : Turn → WorkerValue → Result ℕ Fault → WorkerValue → Type 0
  AnswersTurn turn old answer new = IfOk answer (λ images. HasDone turn old images new) × IfErr answer (λ fault. IsStopped turn old fault new)

-- What a worker's turn, a digest or a seal, does as callers see it.
use Rattle.std.specs.Prelude.{List, ◌≡◌, ℕ, Option}
use Rattle.keybytes.specs.declared.fault.Fault.{Fault}
use Rattle.keybytes.specs.declared.pair.Pair.{Pair}
use Rattle.spool_ledger.specs.Accounts.{Stake}
use Rattle.run_spool.specs.Spools.{NoPageOnlyIf}
use Rattle.run_maker.specs.Spooling.{MemoryOnlyIf}
use Rattle.page_workers.specs.declared.turn.Turn.{Turn}
use Rattle.page_workers.specs.declared.turn.Turn.TheVariants.{Digest, Seal}
use Rattle.build_events.specs.BuildSteps.{Digests, Seals, Waits}
use Rattle.build_events.specs.CoreState.{CoreState}
use Rattle.build_events.specs.Steps.{IsWorkWant, spoiled_by}
use Rattle.live_lemmas.specs.FullSpools.{WorkerWasFull}

-- the worker had its turn, answered with so many images
abbrev pub HasTurn : Turn → ℕ → CoreState → ℕ → CoreState → Type 0
HasTurn Digest worker s images new = Digests worker s images new
HasTurn Seal worker s images new = Seals worker s images new

-- a copy waits for a worker that is refused at its turn; to close runs takes no memory, so a seal may want it only for a copy
abbrev pub TurnWaits : Turn → ℕ → CoreState → Fault → Type 0
TurnWaits Digest worker s fault = Waits worker s
TurnWaits Seal worker s fault = MemoryOnlyIf (Waits worker s) fault

-- the worker was refused at its turn for want of memory or of a page, and the build is spoiled
pub record IsTurnRefused
    {S : Type 0} (is_full : S → Pair → Type 0) (runs : S → List (List Pair)) (open_run : S → List Pair) (stake : S → Option Stake) (turn : Turn) (worker : ℕ)
    (s : CoreState) (fault : Fault) (new : CoreState)
    : Type 0 where
  pub want : IsWorkWant fault
  pub waits : TurnWaits turn worker s fault
  pub full : NoPageOnlyIf (WorkerWasFull is_full runs open_run stake turn s worker) fault
  pub spoiled : new ≡ spoiled_by fault s

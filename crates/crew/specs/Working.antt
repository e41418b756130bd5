-- What a worker does in its thread with the copies that it is sent.
use Rattle.std.specs.Prelude.{ℕ, List, Option}
use Rattle.keybytes.specs.declared.fault.Fault.{Fault}
use Rattle.keybytes.specs.declared.pair.Pair.{Pair}
use Rattle.spool_ledger.specs.Accounts.{Stake}
use Rattle.page_workers.specs.Turns.{HasDone, HasLooked, IsStopped}
use Rattle.page_workers.specs.WorkerValue.{WorkerValue}
use Rattle.page_workers.specs.declared.turn.Turn.{Turn}
use Rattle.page_workers.specs.declared.turn.Turn.TheVariants.{Seal}

-- the worker looked into its ring, and then had its turn
pub record LooksAndDoes (turn : Turn) (old new : WorkerValue) : Type 0 where
  pub seen : ℕ
  pub looked : WorkerValue
  pub looks : HasLooked old seen looked
  pub images : ℕ
  pub does : HasDone turn looked images new

-- it looked, and was stopped at its turn
pub record LooksAndStops
    {S : Type 0} (is_full : S → Pair → Type 0) (runs : S → List (List Pair)) (open_run : S → List Pair) (stake : S → Option Stake)
    (turn : Turn) (old : WorkerValue) (fault : Fault) (new : WorkerValue)
    : Type 0 where
  pub seen : ℕ
  pub looked : WorkerValue
  pub looks : HasLooked old seen looked
  pub stops : IsStopped is_full runs open_run stake turn looked fault new

-- its last turn was a seal
abbrev pub IsSealed : WorkerValue → Type 0
IsSealed worker = (before : WorkerValue) × LooksAndDoes Seal before worker

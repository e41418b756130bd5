-- What a worker's turn, a digest or a seal, and its look into its ring leave of what stands beside a table.
use Rattle.std.specs.Prelude.{◌≡◌, ℕ, List, Option, Some, set}
use Rattle.std.specs.List.{slice_get}
use Rattle.keybytes.specs.Faults.{first_cause}
use Rattle.keybytes.specs.declared.fault.Fault.{Fault}
use Rattle.keybytes.specs.declared.pair.Pair.{Pair}
use Rattle.spool_ledger.specs.Accounts.{Stake}
use Rattle.page_workers.specs.declared.turn.Turn.{Turn}
use Rattle.page_workers.specs.Turns.{HasDone, HasLooked, IsStopped}
use Rattle.page_workers.specs.WorkerValue.{WorkerValue}
use Rattle.building.specs.BuildingValue.{BuildingValue, WorkValue}

-- a worker of the build that runs looked into its ring, where it has now seen so many copies, and nothing else changed
pub record WorkerLooked (worker : ℕ) (old : BuildingValue) (seen : ℕ) (new : BuildingValue) : Type 0 where
  pub it : WorkerValue
  pub there : slice_get old.workers worker ≡ Some it
  pub after : WorkerValue
  pub looked : HasLooked it seen after
  pub left : new ≡ record old { workers = set old.workers worker after }

-- a worker of the build that runs had its turn, answered with so many images, and nothing else changed
pub record WorkerDid (turn : Turn) (worker : ℕ) (old : BuildingValue) (images : ℕ) (new : BuildingValue) : Type 0 where
  pub it : WorkerValue
  pub there : slice_get old.workers worker ≡ Some it
  pub after : WorkerValue
  pub did : HasDone turn it images after
  pub left : new ≡ record old { workers = set old.workers worker after }

-- work that can't go on for that fault, or for the first one
abbrev pub spoiled_for : Fault → WorkValue → WorkValue
spoiled_for fault work = record work { spoiled = first_cause work.spoiled (Some fault) }

module _
    {S : Type 0} (is_full : S → Pair → Type 0) (runs : S → List (List Pair)) (open_run : S → List Pair) (stake : S → Option Stake) where
  -- a worker of the build that runs was refused at its turn: it stopped, the work is spoiled, and nothing else changed
  pub record WorkerStopped (turn : Turn) (worker : ℕ) (old : BuildingValue) (fault : Fault) (new : BuildingValue) : Type 0 where
    pub it : WorkerValue
    pub there : slice_get old.workers worker ≡ Some it
    pub after : WorkerValue
    pub stopped : IsStopped is_full runs open_run stake turn it fault after
    pub work : WorkValue
    pub work_is : old.work ≡ Some work
    pub left : new ≡ record old { workers = set old.workers worker after; work = Some (spoiled_for fault work) }

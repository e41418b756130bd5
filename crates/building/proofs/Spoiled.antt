-- What a refused turn and a refused load leave alike.
use Rattle.std.proofs.Common.{◌≡◌, ℕ, List, length, Result, Ok, Err, IfErr, Some, refl}
use Rattle.keybytes.specs.declared.fault.Fault.{Fault}
use Rattle.page_workers.specs.SpoolValue.{SpoolValue, stakes_of}
use Rattle.page_workers.specs.WorkerValue.{WorkerValue}
use Rattle.building.specs.BuildingValue.{BuildingValue, WorkValue}
use Rattle.building.specs.Holding.{all_spools}
use Rattle.building.specs.Working.{LoadStopped}
use Rattle.building.proofs.LeftBeside.{stakes_beside}

-- the build can't go on for that fault; its spools keep their stakes
pub record IsSpoiled (fault : Fault) (old new : BuildingValue) : Type 0 where
  pub work : WorkValue
  pub runs : old.work ≡ Some work
  pub workers : List WorkerValue
  pub many : length workers ≡ length old.workers
  pub spools : List SpoolValue
  pub stakes : stakes_of (all_spools workers spools) ≡ stakes_of (all_spools old.workers old.spools)
  pub left : new ≡ record old { workers = workers; spools = spools; work = Some (record work { spoiled = Some fault }) }

-- a build whose load was refused can't go on
pub load_spoils :
    (index : ℕ) (old new : BuildingValue) (answer : Result ℕ Fault) → IfErr answer (λ fault. LoadStopped index old fault new)
    → IfErr answer (λ fault. IsSpoiled fault old new)
load_spoils index old new (Ok count) stopped = tt
load_spoils index old new (Err fault) stopped = record {
  work = stopped.work;
  runs = stopped.runs;
  workers = old.workers;
  many = refl;
  spools = stopped.spools;
  stakes = stakes_beside old.workers stopped.spools old.spools stopped.stakes;
  left = stopped.left;
}

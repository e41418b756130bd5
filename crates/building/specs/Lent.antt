-- The workers of a build are lent, to threads, and come back.
use Rattle.std.specs.Prelude.{◌≡◌, ℕ, ◌+◌, ◌-◌, ◌*◌, ◌≤◌, false, List, [], ◌∷◌, length, drop, Option, Some, None}
use Rattle.std.specs.List.{slice_get}
use Rattle.keybytes.specs.Faults.{first_cause}
use Rattle.keybytes.specs.Keys.{KeySpecValue}
use Rattle.keybytes.specs.declared.fault.Fault.{Fault}
use Rattle.side_file.specs.Ends.{RingId}
use Rattle.side_file.specs.declared.entry.Entry.{Entry}
use Rattle.page_workers.specs.IntakeValue.{IntakeValue}
use Rattle.side_file.specs.Ends.{TakeEnd}
use Rattle.page_workers.specs.WorkerValue.{WorkerValue}
use Rattle.table_scan.specs.SideFiles.{taken_rings}
use Rattle.building.specs.BuildingValue.{BuildingValue, WorkValue}
use Rattle.building.specs.Equipped.{HasOwnSpools}
use Rattle.building.specs.Holding.{workers_spools}
use Rattle.building.specs.Keeping.{IsKept}
use Rattle.building.specs.Rings.{take_rings}

-- the workers of a build that goes on can be lent, until they hand their spools over
pub record CanLend (building : BuildingValue) : Type 0 where
  pub work : WorkValue
  pub runs : building.work ≡ Some work
  pub fine : work.spoiled ≡ None
  pub scans : work.handed ≡ false

-- the worker of a place of that build of these indexes, with the ring of its place and with its spools, whether it goes on or was stopped
pub record IsBack (page_rings : List RingId) (build : ℕ) (specs : List KeySpecValue) (place : ℕ) (worker : WorkerValue) : Type 0 where
  pub number : worker.number ≡ place
  pub ring : slice_get page_rings place ≡ Some worker.intake.end.ring
  pub of_build : worker.intake.build ≡ build
  pub specs_are : worker.maker.specs ≡ specs
  pub has_them : worker.handed ≡ false
  pub own : HasOwnSpools specs worker

-- all that were lent are back, each at its place, with its ring
pub record AreBack (page_rings : List RingId) (building : BuildingValue) (workers : List WorkerValue) : Type 0 where
  pub work : WorkValue
  pub runs : building.work ≡ Some work
  pub all : length workers + length building.idle ≡ 16
  pub each : (place : ℕ) (worker : WorkerValue) → slice_get workers place ≡ Some worker → IsBack page_rings work.build work.specs place worker

-- no more came back than were lent: not more workers, and not more spools
pub record AreNoMore (building : BuildingValue) (workers : List WorkerValue) : Type 0 where
  pub work : WorkValue
  pub runs : building.work ≡ Some work
  pub few : length workers + length building.idle ≤ 16
  pub spools : length (workers_spools workers) ≤ (16 - length building.idle) * length work.specs

-- of those that were stopped the lowest one's fault
abbrev pub lowest_fault : List WorkerValue → Option Fault
lowest_fault [] = None
lowest_fault (worker ∷ workers) = first_cause worker.fault (lowest_fault workers)

-- what is kept while they are lent
pub record StaysWithout
    (page_rings entry_rings : List RingId) (idle : List IntakeValue) (sides : List (TakeEnd Entry)) (work : WorkValue)
    : Type 0 where
  pub sixteen : length page_rings ≡ 16
  pub few : length idle ≤ 16
  pub idle_are : take_rings idle ≡ drop (16 - length idle) page_rings
  pub sides_are : taken_rings sides ≡ entry_rings
  pub eight : length sides ≡ 8
  pub fine : work.spoiled ≡ None
  pub scans : work.handed ≡ false
  pub kept : IsKept [] sides [] work

-- Who a worker is, whatever it took, and what stands beside a table while a build goes on.
use Rattle.std.specs.Prelude.{◌≡◌, ℕ, ◌<◌, ◌≤◌, Bool, true, false, List, length, map, is_some, None, Option, Some, IfSome}
use Rattle.std.specs.List.{list_all, slice_get}
use Rattle.keybytes.specs.Keys.{KeySpecValue}
use Rattle.spool_ledger.specs.Accounts.{Stake}
use Rattle.side_file.specs.Ends.{RingId}
use Rattle.page_workers.specs.SpoolValue.{stakes_of}
use Rattle.page_workers.specs.WorkerValue.{WorkerValue}
use Rattle.building.specs.BuildingValue.{BuildingValue, IndexValue, WorkValue}
use Rattle.building.specs.Holding.{all_spools, spools_state}

-- a worker's number and its ring, its build with the indexes, whether its spools went to these, and the stakes of its spools
pub record PlaceValue : Type 0 where
  pub number : ℕ
  pub ring : RingId
  pub build : ℕ
  pub specs : List KeySpecValue
  pub handed : Bool
  pub stakes : List (Option Stake)

abbrev pub place_of : WorkerValue → PlaceValue
place_of worker = record {
  number = worker.number;
  ring = worker.intake.end.ring;
  build = worker.intake.build;
  specs = worker.maker.specs;
  handed = worker.handed;
  stakes = stakes_of worker.spools;
}

abbrev pub places_of : List WorkerValue → List PlaceValue
places_of workers = map place_of workers

-- the stakes of all spools that stand beside a table, in the order in which they were handed in
abbrev pub stakes_beside : BuildingValue → List (Option Stake)
stakes_beside building = stakes_of (all_spools building.workers building.spools)

-- a build of these indexes goes on, of which the first so many are in order
pub record GoesOnWith (count : ℕ) (specs : List KeySpecValue) (building : BuildingValue) : Type 0 where
  pub work : WorkValue
  pub runs : building.work ≡ Some work
  pub specs_are : work.specs ≡ specs
  pub few : length specs ≤ 8
  pub many : length work.indexes ≡ length specs
  pub fine : work.spoiled ≡ None
  pub loaded : (k : ℕ) (index : IndexValue) → k < count → slice_get work.indexes k ≡ Some index → is_some index.built ≡ true

-- not each spool that is left for a build is empty
abbrev pub HasPairsLeft : BuildingValue → Type 0
HasPairsLeft building = list_all (λ is_empty. is_empty) (spools_state building.given (all_spools building.workers building.spools)).left ≡ false

-- its workers have their spools still
abbrev pub StillScans : BuildingValue → Type 0
StillScans building = IfSome building.work (λ w. w.handed ≡ false)

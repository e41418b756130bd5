-- What a switch asks of what stands beside the table, and why it is refused.
use Rattle.std.specs.Prelude.{◌≡◌, ℕ, ◌<◌, ◌⊎◌, [], length, map, Option, Some, None, IfSome, Bool, true, if◌then◌else◌}
use Rattle.std.specs.Option.{option_map}
use Rattle.std.specs.List.{AllZip}
use Rattle.keybytes.specs.Faults.{first_cause}
use Rattle.keybytes.specs.declared.fault.Fault.{Fault}
use Rattle.keybytes.specs.declared.fault.Fault.TheVariants.{NoBuild, NotLoaded, NotScanned, NotSealed}
use Rattle.side_file.specs.declared.entry.Entry.{Entry}
use Rattle.side_file.specs.Ends.{PutEndLooked, TakeEnd}
use Rattle.build_events.specs.BuildSteps.{OnBuild, build_cause}
use Rattle.build_events.specs.CoreState.{BuildState, CoreState}
use Rattle.build_events.specs.Ranges.{open_range}
use Rattle.build_events.specs.Steps.{IsRefused}
use Rattle.build_events.specs.Workers.{unloaded_index}
use Rattle.build_events.specs.declared.event.Event.TheVariants.{Switch}
use Rattle.building.specs.BuildingValue.{BuildingValue, WorkValue}
use Rattle.building.specs.Rings.{all_sent, AreLooked, AreSealed, FirstAreSealed, IsUnsealed}
use Rattle.building.specs.WorkOn.{AreFed, IsIndexFed}
use Rattle.building.specs.Working.{HasHandedOver}
use Rattle.live_lemmas.specs.Builds.{LiveValue, StandsBeside, core_state}

-- what stands beside the table is of the build that runs: it has its number and its indexes, work on each of these, and as many workers
pub record IsOfBuild (live : LiveValue) (building : BuildingValue) : Type 0 where
  pub build : BuildState
  pub runs : live.state.build ≡ Some build
  pub work : WorkValue
  pub there : building.work ≡ Some work
  pub number : work.build ≡ build.number
  pub specs : build.specs ≡ work.specs
  pub many : length work.indexes ≡ length build.specs
  pub workers : length building.workers ≡ build.workers

-- and of each index just the entries that were fed and not applied wait in the ring between these ends
pub record IsPartOf (live : LiveValue) (building : BuildingValue) : Type 0 where
  pub of : IsOfBuild live building
  pub fed : AreFed of.build of.work.indexes live.sides building.sides

-- so it is of that index of the build
abbrev pub IsFedAt : ℕ → LiveValue → BuildingValue → Type 0
IsFedAt k live building = OnBuild live.state.build (λ b. IfSome building.work (λ w. IsIndexFed b w.indexes live.sides building.sides k))

-- an end that takes entries, but for what it has seen in its ring
abbrev pub unseen_take : TakeEnd Entry → TakeEnd Entry
unseen_take end = record end { known = [] }

-- both ends of side-files' rings were looked at, and nothing else changed
pub record SidesAreLooked (live : LiveValue) (building : BuildingValue) (new_live : LiveValue) (new_building : BuildingValue) : Type 0 where
  pub puts : AllZip PutEndLooked live.sides new_live.sides
  pub takes : map unseen_take new_building.sides ≡ map unseen_take building.sides
  pub of_live : new_live ≡ record live { sides = new_live.sides }
  pub of_building : new_building ≡ record building { sides = new_building.sides }

-- both ends of all rings were, and nothing else changed
pub record IsOnlyLookedAt (live : LiveValue) (building : BuildingValue) (new_live : LiveValue) (new_building : BuildingValue) : Type 0 where
  pub state : new_live.state ≡ live.state
  pub pages : AreLooked live.pages building.workers new_live.pages new_building.workers
  pub puts : AllZip PutEndLooked live.sides new_live.sides
  pub takes : map unseen_take new_building.sides ≡ map unseen_take building.sides
  pub rest : new_building ≡ record building { workers = new_building.workers; sides = new_building.sides }

-- both ends of all rings were looked at, and then the workers handed their spools over
pub record HandsOver (live : LiveValue) (building : BuildingValue) (new_live : LiveValue) (new_building : BuildingValue) : Type 0 where
  pub seen : BuildingValue
  pub looked : IsOnlyLookedAt live building new_live seen
  pub handed : HasHandedOver seen new_building

-- all pages of the build are copied
abbrev pub IsScannedWhole : LiveValue → Type 0
IsScannedWhole live = OnBuild live.state.build (λ b. open_range b ≡ None)

-- its work isn't spoiled
abbrev pub IsUnspoiled : BuildingValue → Type 0
IsUnspoiled building = IfSome building.work (λ w. w.spoiled ≡ None)

-- what keeps a build waiting before its workers are asked: it is spoiled, a page isn't copied, or an index isn't in order where all have to be
abbrev pub early_cause : Bool → CoreState → Option Fault
early_cause in_order s =
    build_cause s.live.build (λ b.
    first_cause s.work.spoiled (first_cause (option_map NotScanned (open_range b)) (if in_order then option_map NotLoaded (unloaded_index s.work) else None)))

-- this is the lowest worker for which a copy waits, or whose run is open
pub record IsLowestUnsealed (live : LiveValue) (building : BuildingValue) (worker : ℕ) : Type 0 where
  pub there : worker < length building.workers
  pub lower : FirstAreSealed worker (all_sent live.pages) building.workers
  pub unsealed : IsUnsealed worker (all_sent live.pages) building.workers

-- the workers took all that their rings were sent, and none has a run open
abbrev pub HaveAll : LiveValue → BuildingValue → Type 0
HaveAll live building = AreSealed (all_sent live.pages) building.workers

-- what stands beside the table is of the build that runs and goes on, and nothing is left of what was copied for it
pub record IsTakenIn (live : LiveValue) (building : BuildingValue) : Type 0 where
  pub part : IsPartOf live building
  pub fine : IsUnspoiled building
  pub scanned : IsScannedWhole live
  pub all : HaveAll live building

-- what stands beside the table isn't of the build that runs
pub record IsForeign (live : LiveValue) (building : BuildingValue) (fault : Fault) : Type 0 where
  pub foreign : IsPartOf live building → ⊥
  pub no_build : fault ≡ NoBuild

-- a cause stands that comes before the workers are asked
pub record IsTooEarly (in_order : Bool) (live : LiveValue) (building : BuildingValue) (fault : Fault) : Type 0 where
  pub part : IsPartOf live building
  pub cause : early_cause in_order (core_state live building) ≡ Some fault

-- a copy is left in a ring, or a run is open
pub record HasLeftCopy (in_order : Bool) (live : LiveValue) (building : BuildingValue) (fault : Fault) : Type 0 where
  pub part : IsPartOf live building
  pub first : early_cause in_order (core_state live building) ≡ None
  pub worker : ℕ
  pub lowest : IsLowestUnsealed live building worker
  pub not_sealed : fault ≡ NotSealed worker

-- why the table doesn't take in what stands beside it, where its indexes have to be in order or not
abbrev pub KeepsOut : Bool → LiveValue → BuildingValue → Fault → Type 0
KeepsOut in_order live building fault =
    IsForeign live building fault ⊎ IsTooEarly in_order live building fault ⊎ HasLeftCopy in_order live building fault

-- it was kept out, and looked at only
pub record IsKeptOut
    (in_order : Bool) (live : LiveValue) (building : BuildingValue) (fault : Fault) (new_live : LiveValue) (new_building : BuildingValue)
    : Type 0 where
  pub cause : KeepsOut in_order live building fault
  pub looked : IsOnlyLookedAt live building new_live new_building

-- it was taken in, and its switch refused as the event is; the same switch can be tried again
pub record IsSwitchRefused
    (live : LiveValue) (building : BuildingValue) (fault : Fault) (new_live : LiveValue) (new_building : BuildingValue)
    : Type 0 where
  pub part : IsPartOf live building
  pub first : early_cause true (core_state live building) ≡ None
  pub all : HaveAll live building
  pub refused : IsRefused (core_state live building) Switch fault (core_state new_live new_building)
  pub works : StandsBeside new_live new_building

-- why the table doesn't switch in what stands beside it, and what that leaves
abbrev pub RefusesSwitch : LiveValue → BuildingValue → Fault → LiveValue → BuildingValue → Type 0
RefusesSwitch live building fault new_live new_building =
    IsKeptOut true live building fault new_live new_building ⊎ IsSwitchRefused live building fault new_live new_building

-- What a switch that is refused under the lock leaves.
use Rattle.std.specs.Prelude.{◌≡◌, ◌≢◌, ℕ}
use Rattle.keybytes.specs.declared.fault.Fault.{Fault}
use Rattle.keybytes.specs.declared.fault.Fault.TheVariants.{Busy}
use Rattle.build_events.specs.BuildSteps.{fenced}
use Rattle.building.specs.BuildingValue.{BuildingValue}
use Rattle.live_lemmas.specs.Builds.{LiveValue}
use Rattle.live_lemmas.specs.Switching.{RefusesSwitch}

-- the fence is set where busy transactions were the cause, and nothing else changes
pub record FencesIfBusy (fault : Fault) (live new : LiveValue) : Type 0 where
  pub busy : (count : ℕ) → fault ≡ Busy count → new ≡ record live { state = fenced live.state }
  pub other : ((count : ℕ) → fault ≢ Busy count) → new ≡ live

-- the table refused the switch, and then no other transaction begins where busy ones were the cause
pub record RefusesToSwitch (live : LiveValue) (building : BuildingValue) (fault : Fault) (new_live : LiveValue) (new_building : BuildingValue) : Type 0 where
  pub left : LiveValue
  pub refused : RefusesSwitch live building fault left new_building
  pub fences : FencesIfBusy fault left new_live

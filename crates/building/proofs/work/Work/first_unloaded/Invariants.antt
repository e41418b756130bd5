use Rattle.std.proofs.Common.{◌≡◌, ◌<◌, ℕ, true, Some}
use Rattle.std.specs.Prelude.{is_some}
use Rattle.std.specs.List.{slice_get}
use Rattle.building.specs.BuildingValue.{IndexValue}
use Rattle.building.proofs.work.Work.first_unloaded.Given as goal

abbrev pub invariant-loop-index : goal.invariant-loop-index
invariant-loop-index l = (k : ℕ) (it : IndexValue) → k < l.index → slice_get l.self.indexes k ≡ Some it → is_some it.built ≡ true

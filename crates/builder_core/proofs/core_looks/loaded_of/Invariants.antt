use Rattle.std.proofs.Common.{◌≡◌, take}
use Rattle.std.specs.Prelude.{is_some, count_by}
use Rattle.building.specs.BuildingValue.{IndexValue}
use Rattle.builder_core.proofs.core_looks.loaded_of.Given as goal

abbrev pub invariant-loop-index : goal.invariant-loop-index
invariant-loop-index l = l.loaded ≡ count_by (λ (index : IndexValue). is_some index.built) (take l.index l.work.indexes)

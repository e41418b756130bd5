use Rattle.std.proofs.Common.{◌≡◌, length, vec_capacity}
use Rattle.building.specs.BuildingValue.{intakes}
use Rattle.building.proofs.returning.free_rings.Given as goal

abbrev pub invariant-loop-worker : goal.invariant-loop-worker
invariant-loop-worker g l = record {
  all : intakes l.workers.items l.idle.items ≡ intakes l.fn.workers.items l.fn.idle.items;
  room : vec_capacity l.idle ≡ vec_capacity l.fn.idle;
}

abbrev pub decreases-loop-worker : goal.decreases-loop-worker
decreases-loop-worker g l = length l.workers.items

use Rattle.std.proofs.Common.{◌≡◌, ◌≤◌, replicate, vec_capacity}
use Rattle.building.specs.BuildingValue.{fresh_index}
use Rattle.building.proofs.work.fresh_indexes.Given as goal

abbrev pub invariant-loop : goal.invariant-loop
invariant-loop l = record {
  made : l.indexes.items ≡ replicate l.counter fresh_index;
  room : l.count ≤ vec_capacity l.indexes;
}

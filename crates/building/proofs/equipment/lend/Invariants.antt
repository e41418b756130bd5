use Rattle.std.proofs.Common.{◌≡◌, ◌≤◌, take, drop, vec_capacity}
use Rattle.std.specs.Vec.Iter.{into_iter_items}
use Rattle.building.proofs.equipment.lend.Given as goal

abbrev pub invariant-loop : goal.invariant-loop
invariant-loop g l = record {
  own : l.own.items ≡ take l.counter (into_iter_items l.fn.rest);
  rest : into_iter_items l.rest ≡ drop l.counter (into_iter_items l.fn.rest);
  room : l.count ≤ vec_capacity l.own;
}

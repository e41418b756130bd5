use Rattle.std.proofs.Common.{◌≡◌, ◌≤◌, All, length, vec_capacity}
use Rattle.building.specs.Equipped.{HasRoomFor}
use Rattle.building.specs.Holding.{fresh_maker}
use Rattle.building.proofs.equipment.prepare.Given as goal

abbrev pub invariant-loop : goal.invariant-loop
invariant-loop g l = record {
  many : length l.all.items ≡ l.counter;
  makers : All (λ it. it.maker ≡ fresh_maker l.schema l.specs) l.all.items;
  own : All (λ it. HasRoomFor (length l.specs) it.spools) l.all.items;
  room : l.workers ≤ vec_capacity l.all;
}

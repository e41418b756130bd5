use Rattle.std.proofs.Common.{◌≡◌, ◌≤◌, All, length, vec_capacity}
use Rattle.building.specs.Equipped.{HasRoomFor}
use Rattle.building.proofs.loads.rooms.Given as goal

abbrev pub invariant-loop : goal.invariant-loop
invariant-loop g l = record {
  many : length l.rooms.items ≡ l.counter;
  empty : All (HasRoomFor l.workers) l.rooms.items;
  room : l.count ≤ vec_capacity l.rooms;
}

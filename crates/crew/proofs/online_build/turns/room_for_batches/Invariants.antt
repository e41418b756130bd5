use Rattle.std.proofs.Common.{◌≡◌, ◌≤◌, All, length, vec_capacity}
use Rattle.live_lemmas.specs.Settling.{HasRoomForBatch}
use Rattle.crew.proofs.online_build.turns.room_for_batches.Given as goal

abbrev pub invariant-loop : goal.invariant-loop
invariant-loop l = record {
  many : length l.batches.items ≡ l.counter;
  room : All (HasRoomForBatch 32768) l.batches.items;
  places : l.indexes ≤ vec_capacity l.batches;
}

use Rattle.std.proofs.Common.{◌≡◌, ◌+◌, All, length}
use Rattle.live_lemmas.specs.Builds.{core_state, StandsBeside}
use Rattle.live_lemmas.specs.Settling.{HasRoomForBatch}
use Rattle.live_lemmas.proofs.Settling.{IsBeingFed}
use Rattle.live_table.proofs.live.Live.feed_all.Given as goal

abbrev pub invariant-loop-index : goal.invariant-loop-index
invariant-loop-index g l = record {
  being : IsBeingFed l.most l.index (core_state l.fn.self l.fn.building) (core_state l.self l.building);
  works : StandsBeside l.self l.building;
  many : length l.batches.items + l.index ≡ l.indexes;
  room : All (HasRoomForBatch l.most) l.batches.items;
}

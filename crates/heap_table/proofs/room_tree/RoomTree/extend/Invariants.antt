use Rattle.std.proofs.Common.{◌≡◌, ◌+◌, ◌++◌, take}
use Rattle.heap_table.proofs.room_tree.RoomTree.extend.Given as goal

abbrev pub invariant-loop-room : goal.invariant-loop-room
invariant-loop-room l = record {
  rooms : l.self.rooms ≡ l.fn.self.rooms ++ take l.room-index l.rooms;
  spare : l.self.spare + l.room-index ≡ l.fn.self.spare;
}

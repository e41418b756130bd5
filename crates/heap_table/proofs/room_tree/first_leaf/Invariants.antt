use Rattle.std.proofs.Common.{◌<◌, ◌*◌, ◌^◌}
use Rattle.heap_table.specs.Rooms.{IsFirstFrom}
use Rattle.heap_table.proofs.room_tree.first_leaf.Given as goal

abbrev pub invariant-loop-level : goal.invariant-loop-level
invariant-loop-level l = record {
  inside : l.node < 2 * 2 ^ l._level;
  first : IsFirstFrom l.nodes (2 ^ l._level) l.len l.node;
}

use Rattle.std.proofs.Common.{◌≡◌, ◌≤◌, ◌+◌, ◌++◌, length, vec_capacity}
use Rattle.std.specs.Prelude.{reverse}
use Rattle.tree_nodes.proofs.room.move_tail.Given as goal

abbrev pub invariant-loop-into : goal.invariant-loop-into
invariant-loop-into g l = record {
  joined : l.from.items ++ reverse l.into.items ≡ l.fn.from.items;
  within : l.place ≤ length l.from.items;
  lens : length l.into.items + length l.from.items ≡ length l.fn.from.items;
  from_room : vec_capacity l.from ≡ vec_capacity l.fn.from;
  into_room : vec_capacity l.into ≡ vec_capacity l.fn.into;
}

abbrev pub decreases-loop-into : goal.decreases-loop-into
decreases-loop-into g l = length l.from.items

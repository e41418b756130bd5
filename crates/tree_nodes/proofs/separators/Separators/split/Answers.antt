use Rattle.std.proofs.Common.{arith}
use Rattle.tree_nodes.proofs.Headed.{heads_take, heads_drop}
use Rattle.tree_nodes.proofs.separators.Separators.split.Goals as goal

pub invariant_of-self : goal.invariant_of-self
invariant_of-self c = record {
  heads = rw (c.move_tail.ensures.kept, c.move_tail-2.ensures.kept) (heads_take _ _ _ c.self.invariant.heads);
  same_length = omega arith;
  heads_room = omega arith;
  pairs_room = omega arith;
}

pub invariant_of-into : goal.invariant_of-into
invariant_of-into c = record {
  heads = rw (c.move_tail.ensures.moved, c.move_tail-2.ensures.moved) (heads_drop _ _ _ c.self.invariant.heads);
  same_length = omega arith;
  heads_room = omega arith;
  pairs_room = omega arith;
}

use Rattle.std.proofs.Common.{arith}
use Rattle.tree_nodes.proofs.Headed.{heads_remove}
use Rattle.tree_nodes.proofs.separators.Separators.remove.Goals as goal

pub invariant_of-self : goal.invariant_of-self
invariant_of-self c = record {
  heads = rw (c.remove.ensures.items, c.remove-2.ensures.items) (heads_remove _ _ _ c.self.invariant.heads);
  same_length = omega arith;
  heads_room = omega arith;
  pairs_room = omega arith;
}

use Rattle.std.proofs.Common.{arith}
use Rattle.tree_nodes.proofs.Headed.{heads_insert}
use Rattle.tree_nodes.proofs.separators.Separators.insert.Goals as goal

pub invariant_of-self : goal.invariant_of-self
invariant_of-self c = record {
  heads = rw (c.insert_reserved.ensures.items, c.insert_reserved-2.ensures.items) (heads_insert _ _ _ _ _ c.self.invariant.heads c.head.ensures);
  same_length = omega arith;
  heads_room = omega arith;
  pairs_room = omega arith;
}

use Rattle.std.proofs.Common.{◌≡◌, length, drop, ap, sym, subst, arith}
use Rattle.tree_nodes.specs.Order.{PairsRise}
use Rattle.tree_nodes.proofs.LeafFacts.{rise_take, rise_drop}
use Rattle.tree_nodes.proofs.leaf.Leaf.split.Goals as goal

pub invariant_of-self : goal.invariant_of-self
invariant_of-self c = record {
  rise = subst PairsRise (sym c.move_tail.ensures.kept) (rise_take c.args.kept _ c.self.invariant.rise);
  few = omega (arith, c.self.invariant.few, c.move_tail.ensures.kept_len, c.requires.within, ap length c.self.view_is);
  room = omega (arith, c.self.invariant.room, c.move_tail.ensures.from_room);
}

pub invariant_of-into : goal.invariant_of-into
invariant_of-into c =
    let moved : drop c.args.kept c.self.inside.pairs.items ≡ c.move_tail.new.into.items = sym c.move_tail.ensures.moved in
    record {
      rise = subst PairsRise moved (rise_drop c.args.kept _ c.self.invariant.rise);
      few = omega (arith, c.self.invariant.few, c.move_tail.ensures.moved_len);
      room = omega (arith, c.into.invariant.room, c.move_tail.ensures.into_room);
    }

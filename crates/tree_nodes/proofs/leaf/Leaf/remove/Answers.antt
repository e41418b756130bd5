use Rattle.std.proofs.Common.{◌≡◌, subst, arith}
use Rattle.tree_nodes.specs.Lists.{without}
use Rattle.tree_nodes.specs.Order.{is_before, PairsRise}
use Rattle.tree_nodes.proofs.LeafFacts.{rise_without}
use Rattle.tree_nodes.proofs.leaf.Leaf.remove.Goals as goal

pub invariant_of-self : goal.invariant_of-self
invariant_of-self c =
    let e : without is_before (record { key = c.args.key.now; rid = c.args.rid }) c.args.self.now ≡ c.remove.new.self.items = cc (c.in-Ok.ensures.there.without) in
    record {
      rise = subst PairsRise e (rise_without _ _ (subst PairsRise c.self.view_is c.self.invariant.rise));
      few = omega arith;
      room = omega arith;
    }

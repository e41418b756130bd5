use Rattle.std.proofs.Common.{◌≡◌, length, ap, subst, arith}
use Rattle.tree_nodes.specs.Lists.{put}
use Rattle.tree_nodes.specs.Order.{is_before, PairsRise}
use Rattle.tree_nodes.proofs.LeafFacts.{rise_put}
use Rattle.tree_nodes.proofs.leaf.Leaf.insert_at.Goals as goal

pub invariant_of-self : goal.invariant_of-self
invariant_of-self c =
    let e : put is_before c.args.pair c.args.self.now ≡ c.insert_reserved.new.into.items = cc (c.requires.place.put, c.insert_reserved.ensures.items, c.self.view_is) in
    let l : length c.self.inside.pairs.items ≡ length c.args.self.now = ap length c.self.view_is in
    record {
      rise = subst PairsRise e (rise_put _ _ (subst PairsRise c.self.view_is c.self.invariant.rise));
      few = omega arith;
      room = omega arith;
    }

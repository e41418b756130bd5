use Rattle.std.proofs.lemmas.Bool.{both_ways}
use Rattle.btree.proofs.tree.Tree.make_room.Goals as goal

pub invariant_of-self : goal.invariant_of-self
invariant_of-self c = record {
  rising = c.self.invariant.rising;
  height_is = c.self.invariant.height_is;
  count_is = c.self.invariant.count_is;
  tidy = c.in_err-fill.ensures.tidy;
  stocked = λ e. absurd (both_ways _ c.if-self.false e);
  more = λ e. absurd (both_ways _ c.if-self.false e);
}

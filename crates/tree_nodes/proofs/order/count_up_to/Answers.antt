use Rattle.std.proofs.Common.{sym, ◌∙◌, arith}
use Rattle.tree_nodes.proofs.Counts.{before_few, not_above_more, not_above_end}
use Rattle.tree_nodes.proofs.order.count_up_to.Goals as goal

pub loop-low-init : goal.loop-low-init
loop-low-init c =
    let few = before_few (record { key = c.args.key.now; rid = c.args.rid }) c.args.pairs.now in
    let low = c.requires.before.each c.args.rid in
    record { low = omega (arith, few, low); high = c.requires.behind.each c.args.rid; within = omega arith }

pub loop-low-preserved-then-is_after : goal.loop-low-preserved-then-is_after
loop-low-preserved-then-is_after c = record {
  low = c.loop-low.invariant.low;
  high = not_above_end _ _ _ _ (omega arith) c.index-pairs-middle.is (sym c.is_after.ensures ∙ c.if-is_after.true);
  within = omega arith;
}

pub loop-low-preserved : goal.loop-low-preserved
loop-low-preserved c = record {
  low = not_above_more _ _ _ _ c.requires.rise (omega arith) c.index-pairs-middle.is (sym c.is_after.ensures ∙ c.if-is_after.false);
  high = c.loop-low.invariant.high;
  within = c.loop-low.invariant.within;
}

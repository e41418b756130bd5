use Rattle.std.proofs.Common.{sym, ◌∙◌, arith}
use Rattle.tree_nodes.proofs.Counts.{below_more, below_end}
use Rattle.tree_nodes.proofs.Fronts.{front_count-le-length}
use Rattle.tree_nodes.proofs.order.count_before.Goals as goal

pub loop-low-init : goal.loop-low-init
loop-low-init c = record { low = omega arith; high = front_count-le-length _ _; within = omega arith }

pub loop-low-preserved-then-is_before : goal.loop-low-preserved-then-is_before
loop-low-preserved-then-is_before c = record {
  low = below_more _ _ _ _ c.requires (omega arith) c.index-pairs-middle.is (sym c.is_before.ensures ∙ c.if-is_before.true);
  high = c.loop-low.invariant.high;
  within = c.loop-low.invariant.within;
}

pub loop-low-preserved : goal.loop-low-preserved
loop-low-preserved c = record {
  low = c.loop-low.invariant.low;
  high = below_end _ _ _ _ (omega arith) c.index-pairs-middle.is (sym c.is_before.ensures ∙ c.if-is_before.false);
  within = omega arith;
}

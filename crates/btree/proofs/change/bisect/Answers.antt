use Rattle.std.proofs.Common.{sym, ◌∙◌, arith}
use Rattle.btree.proofs.Ordered.{lower_more, lower_end}
use Rattle.btree.proofs.change.bisect.Goals as goal

pub loop-low-preserved-then-is_before : goal.loop-low-preserved-then-is_before
loop-low-preserved-then-is_before c = record {
  low = lower_more _ _ _ _ _ c.requires.order c.requires.within (omega arith) c.index.ensures (sym c.is_before.ensures ∙ c.if-is_before.true);
  high = c.loop-low.invariant.high;
  within = c.loop-low.invariant.within;
}

pub loop-low-preserved : goal.loop-low-preserved
loop-low-preserved c = record {
  low = c.loop-low.invariant.low;
  high = lower_end _ _ _ _ _ c.requires.within (omega arith) c.index.ensures (sym c.is_before.ensures ∙ c.if-is_before.false);
  within = omega arith;
}

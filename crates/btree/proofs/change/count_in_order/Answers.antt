use Rattle.std.proofs.Common.{sym, ◌∙◌, arith}
use Rattle.btree.proofs.Ordered.{order_more}
use Rattle.btree.proofs.change.count_in_order.Goals as goal

pub loop-count-preserved : goal.loop-count-preserved
loop-count-preserved c = record {
  some = omega arith;
  few = omega arith;
  order = order_more _ _ _ _ c.loop-count.invariant.some (omega (arith, c.requires.within)) c.index.ensures c.index-in-loop-count.ensures
      (sym c.is_before.ensures ∙ c.if-is_before.false) c.loop-count.invariant.order;
}

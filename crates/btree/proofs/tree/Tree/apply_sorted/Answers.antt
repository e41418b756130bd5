use Rattle.std.proofs.Common.{arith}
use Rattle.btree.proofs.Changing.{made_on, made_whole}
use Rattle.btree.proofs.tree.Tree.apply_sorted.Goals as goal

pub returns-in_err-apply_run-clause-made : goal.returns-in_err-apply_run-clause-made
returns-in_err-apply_run-clause-made c = made_on c.loop-left.invariant.made c.in_err-apply_run.ensures.made

pub returns-in_err-apply_run-clause-whole : goal.returns-in_err-apply_run-clause-whole
returns-in_err-apply_run-clause-whole c = made_whole (made_on c.loop-left.invariant.made c.in_err-apply_run.ensures.made)

pub loop-left-preserved : goal.loop-left-preserved
loop-left-preserved c = record {
  made = made_on c.loop-left.invariant.made c.in_ok-apply_run.ensures.made;
  there = omega (arith, c.in_ok-apply_run.ensures.all, c.count_in_order-count.ensures.few, c.loop-left.invariant.there);
  rest = omega (arith, c.in_ok-apply_run.ensures.all, c.count_in_order-count.ensures.few, c.loop-left.invariant.rest);
}

pub returns-clause-whole : goal.returns-clause-whole
returns-clause-whole c = made_whole c.loop-left.invariant.made

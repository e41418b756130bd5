use Rattle.std.proofs.Common.{ℕ, ◌-◌, arith}
use Rattle.btree.proofs.Changing.{made_on}
use Rattle.btree.proofs.Ordered.{rest_made}
use Rattle.btree.proofs.applying.apply_run.Goals as goal

pub returns-in_err-apply_first-clause-made : goal.returns-in_err-apply_first-clause-made
returns-in_err-apply_first-clause-made c = made_on (made_on c.loop-left.invariant.made c.walk-left.ensures.made) c.in_err-apply_first.ensures.made

pub loop-left-preserved-then-left-gt0 : goal.loop-left-preserved-then-left-gt0
loop-left-preserved-then-left-gt0 c =
    let left : ℕ = c.loop-left.left - c.walk-left.result in
    let order = rest_made c.walk-left.result left c.walk-left.ensures.made c.loop-left.invariant.order c.walk-left.ensures.taken (omega (arith, c.walk-left.ensures.few)) in
    record {
      made = made_on (made_on c.loop-left.invariant.made c.walk-left.ensures.made) c.in_ok-apply_first.ensures.made;
      rest = omega (arith, c.loop-left.invariant.rest, c.walk-left.ensures.taken, c.walk-left.ensures.few, c.in_ok-apply_first.ensures.one);
      few = omega (arith, c.loop-left.invariant.few);
      order = rest_made 1 (left - 1) c.in_ok-apply_first.ensures.made order c.in_ok-apply_first.ensures.one (omega arith);
    }

pub loop-left-preserved : goal.loop-left-preserved
loop-left-preserved c = record {
  made = made_on c.loop-left.invariant.made c.walk-left.ensures.made;
  rest = omega (arith, c.loop-left.invariant.rest, c.walk-left.ensures.taken, c.walk-left.ensures.few);
  few = omega (arith, c.loop-left.invariant.few);
  order = rest_made c.walk-left.result (c.loop-left.left - c.walk-left.result) c.walk-left.ensures.made c.loop-left.invariant.order c.walk-left.ensures.taken
      (omega (arith, c.walk-left.ensures.few));
}

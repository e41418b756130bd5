use Rattle.std.proofs.Common.{arith}
use Rattle.btree.proofs.Changing.{walked_on}
use Rattle.btree.proofs.walking.apply_to_leaf.Goals as goal

pub loop-steps-preserved : goal.loop-steps-preserved
loop-steps-preserved c =
    rw c.then-steps.ensures (walked_on c.loop-steps.invariant c.apply_first-step.ensures.walked (omega (arith, c.apply_first-step.ensures.walked.within)))

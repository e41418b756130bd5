use Rattle.std.proofs.Common.{arith}
use Rattle.prefix_spool.proofs.SharedFronts.{shared_ends, ends_left, ends_right, front_same}
use Rattle.prefix_spool.proofs.fronts.shared_front.Goals as goal

pub returns-else-n-key-clause-shared : goal.returns-else-n-key-clause-shared
returns-else-n-key-clause-shared c = omega (arith, c.loop-n.invariant.0, ends_right c.args.before.now c.args.key.now c.loop-n.n c.if-n-key.false)

pub returns-else-before-n-clause-same : goal.returns-else-before-n-clause-same
returns-else-before-n-clause-same c =
    front_same c.args.before.now c.args.key.now c.loop-n.n c.loop-n.invariant.0
    (shared_ends c.args.before.now c.args.key.now c.loop-n.n c.loop-n-test.true c.if-n-key.true c.if-before-n.false)

pub returns-else-n-key-clause-same : goal.returns-else-n-key-clause-same
returns-else-n-key-clause-same c =
    front_same c.args.before.now c.args.key.now c.loop-n.n c.loop-n.invariant.0
    (ends_right c.args.before.now c.args.key.now c.loop-n.n c.if-n-key.false)

pub returns-after-loop-n-clause-same : goal.returns-after-loop-n-clause-same
returns-after-loop-n-clause-same c =
    front_same c.args.before.now c.args.key.now c.loop-n.n c.loop-n.invariant.0
    (ends_left c.args.before.now c.args.key.now c.loop-n.n c.loop-n-test.false)

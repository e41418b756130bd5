use Rattle.std.proofs.Common.{◌≡◌, ◌++◌, ◌≤◌, length}
use Rattle.run_spool.specs.Runs.{IsRun}
use Rattle.run_spool.proofs.run.seek.Given as goal

abbrev pub invariant-loop-before : goal.invariant-loop-before
invariant-loop-before g l = IsRun l.passed l.ahead l.before l.len × (l.passed ++ l.ahead ≡ l.fn.passed ++ l.fn.ahead)

abbrev pub decreases-loop-before : goal.decreases-loop-before
decreases-loop-before g l = length l.passed

abbrev pub invariant-loop-before-2 : goal.invariant-loop-before-2
invariant-loop-before-2 g l = IsRun l.passed l.ahead l.before l.len × (l.passed ++ l.ahead ≡ l.fn.passed ++ l.fn.ahead) × (l.before ≤ l.n)

abbrev pub decreases-loop-before-2 : goal.decreases-loop-before-2
decreases-loop-before-2 g l = length l.ahead

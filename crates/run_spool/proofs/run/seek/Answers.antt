use Rattle.std.proofs.Common.{◌∙◌, arith}
use Rattle.run_spool.proofs.RunSteps.{back}
use Rattle.run_spool.proofs.run.seek.Goals as goal

pub loop-before-preserved : goal.loop-before-preserved
loop-before-preserved g c =
    let i = c.loop-before.invariant in
    let b = back i.0 (omega (arith, c.loop-before-test.true)) in
    let from = c.move_last.ensures.from in
    let to = c.move_last.ensures.to in
    (rw (from, to, c.last_len-before.ensures) b.run, rw (from, to) (b.same ∙ i.1))

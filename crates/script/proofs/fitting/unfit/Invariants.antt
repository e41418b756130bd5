use Rattle.script.proofs.Misfits.{SpelledBelow}
use Rattle.script.proofs.fitting.unfit.Given as goal

abbrev pub invariant-loop-place : goal.invariant-loop-place
invariant-loop-place l = SpelledBelow l.fn.parts l.repeated l.fields l.place

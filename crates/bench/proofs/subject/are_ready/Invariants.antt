use Rattle.std.proofs.Common.{All, take}
use Rattle.bench.specs.Verdicts.{IsReady}
use Rattle.bench.proofs.subject.are_ready.Given as goal

abbrev pub invariant-loop-index : goal.invariant-loop-index
invariant-loop-index l = All IsReady (take l.index l.verdicts)

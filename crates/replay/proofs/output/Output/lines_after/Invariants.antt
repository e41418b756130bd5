use Rattle.std.proofs.Common.{◌≡◌}
use Rattle.csv.specs.Writing.{fields_written}
use Rattle.replay.proofs.output.Output.lines_after.Given as goal

abbrev pub invariant-loop-line : goal.invariant-loop-line
invariant-loop-line g l = fields_written l.self.writer ≡ 0

abbrev pub invariant-loop-line-2 : goal.invariant-loop-line-2
invariant-loop-line-2 g l = fields_written l.self.writer ≡ 0

abbrev pub invariant-loop-line-3 : goal.invariant-loop-line-3
invariant-loop-line-3 g l = fields_written l.self.writer ≡ 0

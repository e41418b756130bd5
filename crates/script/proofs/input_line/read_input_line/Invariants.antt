use Rattle.script.specs.Records.{records_of}
use Rattle.script.proofs.ToldLines.{ToldSoFar}
use Rattle.script.proofs.input_line.read_input_line.Given as goal

abbrev pub invariant-loop : goal.invariant-loop
invariant-loop l = ToldSoFar (records_of l.line) l.records l.told.items

use Rattle.std.proofs.Common.{drop}
use Rattle.run_spool.specs.Bytes.{read_pairs, Stored}
use Rattle.run_spool.proofs.area.skip.Given as goal

abbrev pub invariant-loop : goal.invariant-loop
invariant-loop l = Stored l.bytes l.at l.end (drop l.counter (read_pairs l.count (drop l.start l.bytes)))

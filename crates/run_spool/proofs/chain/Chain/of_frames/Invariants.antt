use Rattle.std.proofs.Common.{◌≡◌, length}
use Rattle.run_spool.proofs.chain.Chain.of_frames.Given as goal

abbrev pub invariant-loop : goal.invariant-loop
invariant-loop g l = length l.frames ≡ l.counter

use Rattle.std.proofs.Common.{◌≡◌}
use Rattle.bulk_load.proofs.stream.Stream.wait_for_next.Given as goal

abbrev pub invariant-loop : goal.invariant-loop
invariant-loop g l = l.self.pairs ≡ l.initial.self.pairs

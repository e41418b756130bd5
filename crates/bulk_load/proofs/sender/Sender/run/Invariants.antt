use Rattle.std.proofs.Common.{◌≡◌}
use Rattle.bulk_load.proofs.sender.Sender.run.Given as goal

abbrev pub invariant-loop : goal.invariant-loop
invariant-loop g l = (l.self.number ≡ l.initial.self.number) × (l.self.stakes ≡ l.initial.self.stakes)

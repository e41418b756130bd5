use Rattle.std.proofs.Common.{rules, inr}
use Rattle.leased_core.proofs.leased.LeasedCore.start.Goals as goal

pub returns-clause-refused : goal.returns-clause-refused
returns-clause-refused g c = inr (c.start.new.self, search rules)

use Rattle.std.proofs.Common.{◌≡◌}
use Rattle.layer_tests.proofs.spools.push_pairs.Given as goal

abbrev pub invariant-loop-number : goal.invariant-loop-number
invariant-loop-number g l = g.S.Spool.runs l.spool ≡ g.S.Spool.runs l.initial.spool

use Rattle.std.proofs.Common.{◌≡◌, take}
use Rattle.heap_log.proofs.verdicts.Verdicts.clone.Given as goal

abbrev pub invariant-loop-outcome : goal.invariant-loop-outcome
invariant-loop-outcome l = l.outcomes.items ≡ take l.outcome-index l.outcome-items

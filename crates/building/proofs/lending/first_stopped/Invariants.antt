use Rattle.std.proofs.Common.{◌≡◌, drop}
use Rattle.building.specs.Lent.{lowest_fault}
use Rattle.building.proofs.lending.first_stopped.Given as goal

abbrev pub invariant-loop-worker : goal.invariant-loop-worker
invariant-loop-worker g l = lowest_fault l.workers ≡ lowest_fault (drop l.worker-index l.workers)

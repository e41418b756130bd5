use Rattle.std.proofs.Common.{◌≡◌, ◌*◌, ◌-◌, length}
use Rattle.crew.specs.Places.{GoesOnWith, stakes_beside}
use Rattle.crew.proofs.online_build.turns.catch_up.Given as goal

abbrev pub invariant-loop-report : goal.invariant-loop-report
invariant-loop-report g l = record {
  goes_on : GoesOnWith (length l.plan.specs.items) l.plan.specs.items l.building;
  stakes : stakes_beside l.building ≡ stakes_beside l.fn.building;
  first : l.known.first ≡ l.fn.credit.first;
}

abbrev pub decreases-loop-report : goal.decreases-loop-report
decreases-loop-report g l = 2 * l.known.first - l.known.taken

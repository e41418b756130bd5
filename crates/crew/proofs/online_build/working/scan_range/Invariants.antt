use Rattle.std.proofs.Common.{◌≡◌}
use Rattle.crew.specs.Places.{place_of}
use Rattle.crew.proofs.online_build.working.scan_range.Given as goal

abbrev pub invariant-loop : goal.invariant-loop
invariant-loop g l = place_of l.worker ≡ place_of l.initial.worker

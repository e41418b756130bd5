use Rattle.std.proofs.Common.{◌≡◌, drop}
use Rattle.building.specs.IndexLoads.{first_fault_of}
use Rattle.building.proofs.loads.first_fault.Given as goal

abbrev pub invariant-loop-load : goal.invariant-loop-load
invariant-loop-load g l = first_fault_of l.loads ≡ first_fault_of (drop l.load-index l.loads)

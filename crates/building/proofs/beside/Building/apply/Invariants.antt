use Rattle.building.specs.Working.{HasApplied}
use Rattle.building.proofs.beside.Building.apply.Given as goal

abbrev pub invariant-loop : goal.invariant-loop
invariant-loop g l = HasApplied l.index l.initial.self l.counter l.self

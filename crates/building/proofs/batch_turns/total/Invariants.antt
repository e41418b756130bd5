use Rattle.std.proofs.Common.{take}
use Rattle.building.specs.BatchTurns.{HaveTotal}
use Rattle.building.proofs.batch_turns.total.Given as goal

abbrev pub invariant-loop-turn : goal.invariant-loop-turn
invariant-loop-turn l = HaveTotal l.count (take l.turn-index l.turns)

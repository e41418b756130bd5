use Rattle.std.proofs.Common.{arith}
use Rattle.building.proofs.BatchTurns.{total_more}
use Rattle.building.proofs.batch_turns.total.Goals as goal

pub loop-turn-preserved : goal.loop-turn-preserved
loop-turn-preserved c =
    total_more c.args.turns.now c.loop-turn.turn-index c.loop-turn.count c.in_ok-more.more c.in-Some.both c.turn-item.result
    (omega (arith, c.loop-turn-test.true)) c.turn-item.is c.in_ok-more.was c.in-Some.ensures.1 c.loop-turn.invariant

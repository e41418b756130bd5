use Rattle.std.proofs.Common.{rules, get_or, subst}
use denote.Param.Send.{sendable}
use Rattle.building.proofs.BatchTurns.{along}
use Rattle.building.proofs.Crosses.{turn_send}
use Rattle.building.specs.BatchTurns.{HasTurned}
use Rattle.building.specs.declared.batch_turns.IndexTurn.{IndexTurn}
use Rattle.building.proofs.batch_turns.run_all.Goals as goal

pub par_for_each_mut-requires-send-T : goal.par_for_each_mut-requires-send-T
par_for_each_mut-requires-send-T g c κs within = search (turn_send, sendable) depth 20

pub returns : goal.returns
returns g c =
    along HasTurned c.args.turns.now c.par_for_each_mut.new.s (search rules) (λ k d less.
    let at = (c.par_for_each_mut.ensures k d less).1 in
    let Old : IndexTurn → Type 0 = λ t. HasTurned t at.after_call.now in
    let New : IndexTurn → Type 0 = λ t. HasTurned (get_or c.args.turns.now k d) t in
    subst New at.left (subst Old at.argument_is at.call))

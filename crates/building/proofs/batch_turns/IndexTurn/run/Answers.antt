use Rattle.building.proofs.BatchTurns.{turned}
use Rattle.building.proofs.batch_turns.IndexTurn.run.Goals as goal

pub returns : goal.returns
returns g c =
    let applied = c.apply_batch-self.ensures in
    turned c.args.self.now c.look.new.self c.apply_batch-self.new.end c.apply_batch-self.new.self c.look.ensures.looked applied.ring c.apply_batch-self.result
    applied.applied applied.taken applied.memory

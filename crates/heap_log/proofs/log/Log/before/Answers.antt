use Rattle.heap_log.proofs.Numbers.{standing_before-writes}
use Rattle.heap_log.proofs.log.Log.before.Goals as goal

pub returns-clause-write : goal.returns-clause-write
returns-clause-write c = standing_before-writes c.args.self.now.records c.args.number _ c.before_on.ensures

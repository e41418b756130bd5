use Rattle.std.proofs.Common.{ap}
use Rattle.heap_log.specs.declared.rid_head.RidHead.{RidHead}
use Rattle.heap_log.proofs.Numbers.{last_at-writes}
use Rattle.heap_log.proofs.log.Log.last.Goals as goal

pub returns-clause-write : goal.returns-clause-write
returns-clause-write c = last_at-writes c.args.self.now.records c.args.rid _ _ (ap (λ (head : RidHead). head.last) c.rid_head.ensures)

use Rattle.std.proofs.Common.{ap}
use Rattle.heap_log.specs.declared.txn_head.TxnHead.{TxnHead}
use Rattle.heap_log.proofs.Numbers.{newest_standing-writes}
use Rattle.heap_log.proofs.log.Log.newest.Goals as goal

pub returns-clause-write : goal.returns-clause-write
returns-clause-write c = newest_standing-writes c.args.self.now.records c.args.txn _ (ap (λ (head : TxnHead). head.newest) c.txn_head.ensures)

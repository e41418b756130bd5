use Rattle.std.proofs.Common.{ap}
use Rattle.heap_log.specs.declared.txn_head.TxnHead.{TxnHead}
use Rattle.heap_log.proofs.Numbers.{last_of-writes}
use Rattle.heap_log.proofs.log.Log.last_of.Goals as goal

pub returns-clause-write : goal.returns-clause-write
returns-clause-write c = last_of-writes c.args.self.now.records c.args.txn _ _ (ap (λ (head : TxnHead). head.last) c.txn_head.ensures)

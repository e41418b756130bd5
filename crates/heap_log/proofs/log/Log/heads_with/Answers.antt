use Rattle.std.proofs.Common.{arith}
use Rattle.heap_log.proofs.Headed.{standing-le}
use Rattle.heap_log.proofs.log.Log.heads_with.Goals as goal

pub overflow_add-result : goal.overflow_add-result
overflow_add-result c = omega (arith, standing-le c.args.self.now.records c.args.txn)

use Rattle.std.proofs.Common.{◌≡◌, ◌+◌, ◌++◌, replicate}
use Rattle.heap_log.specs.TxnHeads.{no_txn_head}
use Rattle.heap_log.proofs.txn_head.push_none.Given as goal

abbrev pub invariant-loop : goal.invariant-loop
invariant-loop l = record {
  items : l.heads.items ≡ l.fn.heads.items ++ replicate l.counter no_txn_head;
  room : l.heads.room + l.counter ≡ l.fn.heads.room;
}

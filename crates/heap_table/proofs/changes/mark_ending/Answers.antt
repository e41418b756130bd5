use Rattle.std.proofs.Common.{arith}
use Rattle.heap_table.specs.HeapState.{mark}
use Rattle.heap_table.proofs.OpenOnes.{map_at}
use Rattle.heap_table.proofs.changes.mark_ending.Goals as goal

pub returns : goal.returns
returns c = map_at (mark c.args.txn) _ _ c.loop-i.invariant.0
    (λ k d l. c.loop-i.invariant.1 k d (omega (arith, c.len-i-end.ensures, c.args.open_txns.now.ok, c.loop-i-test.false)))

use Rattle.std.specs.Option.{unwrap_or}
use Rattle.heap_table.proofs.Settling.{HasSettled}
use Rattle.heap_table.proofs.changes.settle_writes.Given as goal

abbrev pub invariant-loop-place : goal.invariant-loop-place
invariant-loop-place l = HasSettled l.log.records l.txn l.initial.pages l.place l.pages

abbrev pub decreases-loop-place : goal.decreases-loop-place
decreases-loop-place l = unwrap_or l.place 0

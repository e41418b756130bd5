use Rattle.std.proofs.Common.{◌≡◌, ◌++◌, List}
use Rattle.std.specs.Vec.Iter.{into_iter_items}
use Rattle.heap_log.specs.declared.record.LogRec.{LogRec}
use Rattle.race.specs.OneLog.{HasKept}
use Rattle.race.proofs.gathered.keep_all.Given as goal

abbrev pub invariant-loop-receipt : goal.invariant-loop-receipt
invariant-loop-receipt g l =
    (goal.iterator-loop-receipt g).can_next l.receipt-iterator ×
    (goal.iterator-loop-receipt g).is_finite l.receipt-iterator ×
    (done : List (List LogRec)) × (done ++ into_iter_items l.receipt-iterator ≡ l.fn.receipts.items) ×
    HasKept l.initial.kept.items done l.kept.items

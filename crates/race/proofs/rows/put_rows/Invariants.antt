use Rattle.std.proofs.Common.{List}
use Rattle.std.specs.Vec.Iter.{into_iter_items}
use Rattle.heap_log.specs.declared.record.LogRec.{LogRec}
use Rattle.race.specs.Rows.{HasPutRows}
use Rattle.race.proofs.rows.put_rows.Given as goal

-- once the other rows are put in, all are
abbrev pub invariant-loop-cells : goal.invariant-loop-cells
invariant-loop-cells l =
    (goal.iterator-loop-cells).can_next l.cells-iterator ×
    (goal.iterator-loop-cells).is_finite l.cells-iterator ×
    ((new : List LogRec) → HasPutRows (into_iter_items l.cells-iterator) l.heap.state.log new → HasPutRows l.fn.rows.items l.initial.heap.state.log new)

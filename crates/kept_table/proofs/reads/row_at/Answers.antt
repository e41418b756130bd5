use Rattle.std.proofs.Common.{◌≡◌, true, List, Some, Result, Ok, Err, ap, subst, ◌∙◌}
use Rattle.std.specs.Prelude.{IfOk}
use Rattle.keybytes.specs.Cells.{fits}
use Rattle.keybytes.specs.declared.cell.Cell.{Cell}
use Rattle.keybytes.specs.declared.fault.Fault.{Fault}
use Rattle.keybytes.specs.declared.rid.Rid.{Rid}
use Rattle.heap_log.specs.Standing.{live_at}
use Rattle.heap_table.specs.HeapState.{HeapState}
use Rattle.heap_table.specs.Kept.{RowsFit}
use Rattle.build_events.specs.CoreState.{CoreState, LiveState}
use Rattle.kept_table.proofs.reads.row_at.Goals as goal

-- a row that stands has the table's columns
row_fits :
    (heap : HeapState) (rid : Rid) (told : Result (List Cell) Fault) → RowsFit heap.schema heap.log
    → IfOk told (λ row. live_at heap.log rid ≡ Some row) → IfOk told (λ row. fits heap.schema row ≡ true)
row_fits heap rid (Ok row) rows stands = rows.fitting rid row stands
row_fits heap rid (Err fault) rows stands = tt

pub returns-clause-fits : goal.returns-clause-fits
returns-clause-fits g c =
    let heap = c.heap.ensures ∙ ap (λ (live : LiveState). live.heap) c.live.ensures ∙ ap (λ (s : CoreState). s.live.heap) (c.core.ensures ∙ c.open-named.ensures) in
    row_fits c.args.table.core.live.heap c.args.rid c.get-row.result (subst (λ (h : HeapState). RowsFit h.schema h.log) heap c.laws.ensures.rows)
    (subst (λ (s : CoreState). IfOk c.get-row.result (λ row. live_at s.live.heap.log c.args.rid ≡ Some row)) c.open-named.ensures c.get-row.ensures.ok)

use Rattle.build_events.specs.CoreState.{with_heap}
use Rattle.heap_log.specs.Standing.{live_at}
use Rattle.heap_table.specs.HeapState.{after_visit, row_missing}
use Rattle.keybytes.specs.Cells.{fits}
use Rattle.keybytes.specs.Faults.{RefusedFor}
use Rattle.std.proofs.Common.{◌≡◌, true, Some}
use Rattle.std.specs.Prelude.{IfErr, IfOk, OnErr, OnOk}
use Rattle.build_events.specs.CoreState.{CoreState}
use Rattle.kept_table.proofs.Tables.{on_table}
use Rattle.kept_table.proofs.kept.Kept.get.Goals as goal

pub returns-clause-ok : goal.returns-clause-ok
returns-clause-ok c =
    on_table (λ (s : CoreState). IfOk c.row_at-table.result.1 (λ row. live_at s.live.heap.log c.args.rid ≡ Some row)) c.args.self.now c.self.inside.table c.self.inside.decided c.self.inside.waited
    c.taken.result c.self.view_is c.taken.ensures c.row_at-table.ensures.ok

pub returns-clause-fits : goal.returns-clause-fits
returns-clause-fits c =
    on_table (λ (s : CoreState). IfOk c.row_at-table.result.1 (λ row. fits s.live.heap.schema row ≡ true)) c.args.self.now c.self.inside.table c.self.inside.decided c.self.inside.waited
    c.taken.result c.self.view_is c.taken.ensures c.row_at-table.ensures.fits

pub returns-clause-visited : goal.returns-clause-visited
returns-clause-visited c =
    on_table (λ (s : CoreState). OnOk c.row_at-table.result.1 (c.row_at-table.result.0.core ≡ with_heap s (after_visit s.live.heap))) c.args.self.now c.self.inside.table c.self.inside.decided c.self.inside.waited
    c.taken.result c.self.view_is c.taken.ensures c.row_at-table.ensures.visited

pub returns-clause-unchanged : goal.returns-clause-unchanged
returns-clause-unchanged c =
    on_table (λ (s : CoreState). OnErr c.row_at-table.result.1 (c.row_at-table.result.0.core ≡ s)) c.args.self.now c.self.inside.table c.self.inside.decided c.self.inside.waited
    c.taken.result c.self.view_is c.taken.ensures c.row_at-table.ensures.unchanged

pub returns-clause-refused : goal.returns-clause-refused
returns-clause-refused c =
    on_table (λ (s : CoreState). IfErr c.row_at-table.result.1 (RefusedFor (row_missing (live_at s.live.heap.log c.args.rid)))) c.args.self.now c.self.inside.table c.self.inside.decided c.self.inside.waited
    c.taken.result c.self.view_is c.taken.ensures c.row_at-table.ensures.refused

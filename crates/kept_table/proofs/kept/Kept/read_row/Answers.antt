use Rattle.keybytes.specs.Rows.{RefusesReading, Spells}
use Rattle.keybytes.specs.declared.cell.Cell.{Cell}
use Rattle.std.proofs.Common.{◌≡◌, List}
use Rattle.std.specs.Prelude.{IfErr, IfOk}
use Rattle.build_events.specs.CoreState.{CoreState}
use Rattle.kept_table.proofs.Tables.{on_table}
use Rattle.kept_table.proofs.kept.Kept.read_row.Goals as goal

pub returns-clause-ok : goal.returns-clause-ok
returns-clause-ok c =
    on_table (λ (s : CoreState). IfOk c.row_of-table.result.1 (λ row. Spells s.live.heap.schema c.args.bytes.now row)) c.args.self.now c.self.inside.table c.self.inside.decided c.self.inside.waited
    c.taken.result c.self.view_is c.taken.ensures c.row_of-table.ensures.ok

pub returns-clause-alone : goal.returns-clause-alone
returns-clause-alone c =
    on_table (λ (s : CoreState). IfOk c.row_of-table.result.1 (λ row. (cells : List Cell) → Spells s.live.heap.schema c.args.bytes.now cells → cells ≡ row)) c.args.self.now c.self.inside.table c.self.inside.decided c.self.inside.waited
    c.taken.result c.self.view_is c.taken.ensures c.row_of-table.ensures.alone

pub returns-clause-refused : goal.returns-clause-refused
returns-clause-refused c =
    on_table (λ (s : CoreState). IfErr c.row_of-table.result.1 (RefusesReading s.live.heap.schema c.args.bytes.now)) c.args.self.now c.self.inside.table c.self.inside.decided c.self.inside.waited
    c.taken.result c.self.view_is c.taken.ensures c.row_of-table.ensures.refused

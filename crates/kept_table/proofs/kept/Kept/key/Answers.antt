use Rattle.kept_table.specs.Lookups.{IsFirstKey, key_refusal}
use Rattle.keybytes.specs.Faults.{RefusedFor}
use Rattle.std.specs.List.{slice_get}
use Rattle.std.specs.Prelude.{◌≡◌, None, IfErr, IfOk, OnOk}
use Rattle.build_events.specs.CoreState.{CoreState}
use Rattle.kept_table.proofs.Tables.{on_table}
use Rattle.kept_table.proofs.kept.Kept.key.Goals as goal

pub returns-clause-ok : goal.returns-clause-ok
returns-clause-ok c =
    on_table (λ (s : CoreState). IfOk c.key_by-table.result.1 (IsFirstKey s.live.heap.schema c.args.columns (slice_get s.live.ready c.args.number) c.args.row.now)) c.args.self.now c.self.inside.table c.self.inside.decided c.self.inside.waited
    c.taken.result c.self.view_is c.taken.ensures c.key_by-table.ensures.ok

pub returns-clause-refused : goal.returns-clause-refused
returns-clause-refused c =
    on_table (λ (s : CoreState). IfErr c.key_by-table.result.1 (RefusedFor (key_refusal s.live c.args.number c.args.columns c.args.row.now))) c.args.self.now c.self.inside.table c.self.inside.decided c.self.inside.waited
    c.taken.result c.self.view_is c.taken.ensures c.key_by-table.ensures.refused

pub returns-clause-accepted : goal.returns-clause-accepted
returns-clause-accepted c =
    on_table (λ (s : CoreState). OnOk c.key_by-table.result.1 (key_refusal s.live c.args.number c.args.columns c.args.row.now ≡ None)) c.args.self.now c.self.inside.table c.self.inside.decided c.self.inside.waited
    c.taken.result c.self.view_is c.taken.ensures c.key_by-table.ensures.accepted

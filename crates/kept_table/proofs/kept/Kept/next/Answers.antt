use Rattle.kept_table.specs.Lookups.{GoesOnWith, number_refusal, pair_of}
use Rattle.keybytes.specs.Faults.{RefusedFor}
use Rattle.std.specs.List.{slice_get}
use Rattle.std.specs.Option.{option_map}
use Rattle.std.specs.Prelude.{IfErr, IfOk}
use Rattle.build_events.specs.CoreState.{CoreState}
use Rattle.kept_table.proofs.Tables.{on_table}
use Rattle.kept_table.proofs.kept.Kept.next.Goals as goal

pub returns-clause-ok : goal.returns-clause-ok
returns-clause-ok c =
    on_table (λ (s : CoreState). IfOk c.next_of-table.result.1 (λ found. GoesOnWith c.args.past (record { key = c.args.key.now; rid = c.args.rid }) (slice_get s.live.ready c.args.number) (option_map pair_of found))) c.args.self.now c.self.inside.table c.self.inside.decided c.self.inside.waited
    c.taken.result c.self.view_is c.taken.ensures c.next_of-table.ensures.ok

pub returns-clause-refused : goal.returns-clause-refused
returns-clause-refused c =
    on_table (λ (s : CoreState). IfErr c.next_of-table.result.1 (RefusedFor (number_refusal (slice_get s.live.ready c.args.number)))) c.args.self.now c.self.inside.table c.self.inside.decided c.self.inside.waited
    c.taken.result c.self.view_is c.taken.ensures c.next_of-table.ensures.refused

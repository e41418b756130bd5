use Rattle.build_events.specs.Steps.{Step}
use Rattle.build_events.specs.declared.event.Event.TheVariants.{Abandon}
use Rattle.build_events.specs.declared.reply.Reply.TheVariants.{Abandoned, Refused}
use Rattle.leased_core.specs.Leasing.{EndsBuild}
use Rattle.kept_table.specs.KeptTables.{KeptValue}
use Rattle.std.proofs.Common.{◌≡◌}
use Rattle.std.specs.Prelude.{IfErr, OnErr, OnOk}
use Rattle.build_events.specs.CoreState.{CoreState}
use Rattle.kept_table.proofs.Tables.{forgotten, not_forgotten, on_kept, on_table}
use Rattle.kept_table.proofs.kept.Kept.abandon.Goals as goal

pub returns-clause-abandoned : goal.returns-clause-abandoned
returns-clause-abandoned c =
    on_table (λ (s : CoreState). OnOk c.abandoned-table.result.1 (EndsBuild Abandon Abandoned s c.abandoned-table.result.0.core)) c.args.self.now c.self.inside.table c.self.inside.decided c.self.inside.waited
    c.taken.result c.self.view_is c.taken.ensures c.abandoned-table.ensures.abandoned

pub returns-clause-refused : goal.returns-clause-refused
returns-clause-refused c =
    on_table (λ (s : CoreState). IfErr c.abandoned-table.result.1 (λ fault. Step s Abandon (Refused fault) c.abandoned-table.result.0.core)) c.args.self.now c.self.inside.table c.self.inside.decided c.self.inside.waited
    c.taken.result c.self.view_is c.taken.ensures c.abandoned-table.ensures.refused

pub returns-clause-forgotten : goal.returns-clause-forgotten
returns-clause-forgotten c =
    forgotten c.abandoned-table.result.1 c.is_ok.result c.self.inside.waited c.forget_if.new.waited c.is_ok.ensures.value c.forget_if.ensures

pub returns-clause-waited : goal.returns-clause-waited
returns-clause-waited c =
    on_kept (λ (k : KeptValue). OnErr c.abandoned-table.result.1 (c.forget_if.new.waited ≡ k.waited)) c.args.self.now
    c.self.inside.table c.self.inside.decided c.self.inside.waited c.taken.result c.self.view_is c.taken.ensures
    (not_forgotten c.abandoned-table.result.1 c.is_ok.result c.self.inside.waited c.forget_if.new.waited c.is_ok.ensures.value c.forget_if.ensures)

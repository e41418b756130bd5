use Rattle.build_events.specs.declared.reply.Reply.TheVariants.{Started}
use Rattle.kept_table.specs.Starts.{RefusesStart, start_limits_refusal}
use Rattle.leased_core.specs.Leasing.{StartsOver}
use Rattle.std.proofs.Common.{◌≡◌, None}
use Rattle.std.specs.Prelude.{IfErr, IfOk, OnOk}
use Rattle.build_events.specs.CoreState.{CoreState}
use Rattle.kept_table.proofs.Tables.{forgotten, not_forgotten, on_table, unchanged_kept}
use Rattle.kept_table.proofs.kept.Kept.start.Goals as goal

pub returns-clause-started : goal.returns-clause-started
returns-clause-started c =
    on_table (λ (s : CoreState). IfOk c.started-table.result.1 (λ pages. StartsOver c.args.choice c.args.quota c.args.plan s (Started pages) c.started-table.result.0.core)) c.args.self.now c.self.inside.table c.self.inside.decided c.self.inside.waited
    c.taken.result c.self.view_is c.taken.ensures c.started-table.ensures.started

pub returns-clause-accepted : goal.returns-clause-accepted
returns-clause-accepted c =
    on_table (λ (s : CoreState). OnOk c.started-table.result.1 (start_limits_refusal c.args.quota c.args.plan s ≡ None)) c.args.self.now c.self.inside.table c.self.inside.decided c.self.inside.waited
    c.taken.result c.self.view_is c.taken.ensures c.started-table.ensures.accepted

pub returns-clause-refused : goal.returns-clause-refused
returns-clause-refused c =
    on_table (λ (s : CoreState). IfErr c.started-table.result.1 (RefusesStart c.args.choice c.args.quota c.args.plan s)) c.args.self.now c.self.inside.table c.self.inside.decided c.self.inside.waited
    c.taken.result c.self.view_is c.taken.ensures c.started-table.ensures.refused

pub returns-clause-unchanged : goal.returns-clause-unchanged
returns-clause-unchanged c =
    unchanged_kept c.started-table.result.1 c.args.self.now c.self.inside.table c.self.inside.decided c.self.inside.waited c.forget_if.new.waited
    c.taken.result c.started-table.result.0 c.self.view_is c.taken.ensures
    (not_forgotten c.started-table.result.1 c.is_ok.result c.self.inside.waited c.forget_if.new.waited c.is_ok.ensures.value c.forget_if.ensures)
    c.started-table.ensures.unchanged

pub returns-clause-waited : goal.returns-clause-waited
returns-clause-waited c =
    forgotten c.started-table.result.1 c.is_ok.result c.self.inside.waited c.forget_if.new.waited c.is_ok.ensures.value c.forget_if.ensures

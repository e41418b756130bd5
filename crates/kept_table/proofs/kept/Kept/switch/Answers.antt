use Rattle.kept_table.specs.Decisions.{Decides, FailsToDecide}
use Rattle.kept_table.specs.KeptTables.{KeptValue}
use Rattle.std.proofs.Common.{◌≡◌}
use Rattle.std.specs.Prelude.{IfErr, IfOk, IsSomeAnd, OnErr}
use Rattle.build_events.specs.CoreState.{CoreState}
use Rattle.kept_table.proofs.Tables.{forgotten, not_forgotten, on_kept, on_table}
use Rattle.kept_table.proofs.kept.Kept.switch.Goals as goal

pub returns-clause-decided : goal.returns-clause-decided
returns-clause-decided c =
    on_table (λ (s : CoreState). IfOk c.switched-table.result.1 (λ number. IsSomeAnd c.switched-table.new.decided (λ told. Decides s number told c.switched-table.result.0.core))) c.args.self.now c.self.inside.table c.self.inside.decided c.self.inside.waited
    c.taken.result c.self.view_is c.taken.ensures c.switched-table.ensures.decided

pub returns-clause-refused : goal.returns-clause-refused
returns-clause-refused c =
    on_table (λ (s : CoreState). IfErr c.switched-table.result.1 (λ fault. FailsToDecide s fault c.switched-table.result.0.core)) c.args.self.now c.self.inside.table c.self.inside.decided c.self.inside.waited
    c.taken.result c.self.view_is c.taken.ensures c.switched-table.ensures.refused

pub returns-clause-kept : goal.returns-clause-kept
returns-clause-kept c =
    on_kept (λ (k : KeptValue). OnErr c.switched-table.result.1 (c.switched-table.new.decided ≡ k.decided)) c.args.self.now c.self.inside.table c.self.inside.decided c.self.inside.waited
    c.taken.result c.self.view_is c.taken.ensures c.switched-table.ensures.kept

pub returns-clause-forgotten : goal.returns-clause-forgotten
returns-clause-forgotten c =
    forgotten c.switched-table.result.1 c.is_ok.result c.self.inside.waited c.forget_if.new.waited c.is_ok.ensures.value c.forget_if.ensures

pub returns-clause-waited : goal.returns-clause-waited
returns-clause-waited c =
    on_kept (λ (k : KeptValue). OnErr c.switched-table.result.1 (c.forget_if.new.waited ≡ k.waited)) c.args.self.now
    c.self.inside.table c.self.inside.decided c.self.inside.waited c.taken.result c.self.view_is c.taken.ensures
    (not_forgotten c.switched-table.result.1 c.is_ok.result c.self.inside.waited c.forget_if.new.waited c.is_ok.ensures.value c.forget_if.ensures)

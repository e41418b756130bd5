use Rattle.build_events.specs.Steps.{HasPageCause, Step}
use Rattle.leased_core.specs.Leasing.{WantedLeasedPage}
use Rattle.build_events.specs.CoreState.{CoreState}
use Rattle.kept_table.proofs.Tables.{on_table}
use Rattle.kept_table.proofs.kept.Kept.step.Goals as goal

pub returns-clause-step : goal.returns-clause-step
returns-clause-step c =
    on_table (λ (s : CoreState). Step s c.args.event c.stepped-table.result.1 c.stepped-table.result.0.core) c.args.self.now c.self.inside.table c.self.inside.decided c.self.inside.waited
    c.taken.result c.self.view_is c.taken.ensures c.stepped-table.ensures.step

pub returns-clause-full : goal.returns-clause-full
returns-clause-full c =
    on_table (λ (s : CoreState). HasPageCause WantedLeasedPage s c.args.event c.stepped-table.result.1) c.args.self.now c.self.inside.table c.self.inside.decided c.self.inside.waited
    c.taken.result c.self.view_is c.taken.ensures c.stepped-table.ensures.full

use Rattle.build_events.specs.CoreState.{CoreState}
use Rattle.leased_core.specs.Leasing.{IsHandedBack}
use Rattle.kept_table.proofs.Tables.{on_table}
use Rattle.kept_table.proofs.kept.Kept.close.Goals as goal

pub returns : goal.returns
returns c =
    on_table (λ (s : CoreState). IsHandedBack s c.closed.result) c.args.self c.self.inside.table c.self.inside.decided c.self.inside.waited
    c.in-Some.table c.self.view_is c.in-Some.is c.closed.ensures

use Rattle.std.proofs.Common.{subst, sym}
use Rattle.build_events.specs.CoreState.{CoreState}
use Rattle.build_events.specs.Steps.{HasPageCause, Step}
use Rattle.leased_core.specs.Leasing.{WantedLeasedPage}
use Rattle.kept_table.proofs.kept.stepped.Goals as goal

pub returns-clause-step : goal.returns-clause-step
returns-clause-step g c =
    subst (λ (after : CoreState). Step c.args.table.core c.args.event c.step-reply.result after) (sym c.unname.ensures.core)
    (subst (λ (before : CoreState). Step before c.args.event c.step-reply.result c.step-reply.new.self) c.open-named.ensures c.step-reply.ensures.step)

pub returns-clause-full : goal.returns-clause-full
returns-clause-full g c =
    subst (λ (before : CoreState). HasPageCause WantedLeasedPage before c.args.event c.step-reply.result) c.open-named.ensures c.step-reply.ensures.full

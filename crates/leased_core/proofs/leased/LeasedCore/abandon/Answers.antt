use Rattle.std.proofs.Common.{Option, subst}
use Rattle.build_events.specs.CoreState.{CoreState}
use Rattle.leased_core.specs.Leasing.{IsBackOf, IsHandedBack, LeasesValue}
use Rattle.leased_core.proofs.OnePool.{handed_back}
use Rattle.leased_core.proofs.leased.LeasedCore.abandon.Goals as goal

pub returns-clause-back : goal.returns-clause-back
returns-clause-back g c =
    subst (λ (s : CoreState). IsHandedBack s c.end_build.result) c.self.view_is
    (handed_back c.self.inside.leases c.self.inside.core c.end_build.result c.self.invariant
    (subst (λ (leases : Option LeasesValue). IsBackOf leases c.end_build.result) c.take.ensures.value c.end_build.ensures.pages))

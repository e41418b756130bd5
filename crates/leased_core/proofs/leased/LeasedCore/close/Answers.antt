use Rattle.std.proofs.Common.{subst}
use Rattle.build_events.specs.CoreState.{CoreState}
use Rattle.leased_core.specs.Leasing.{IsHandedBack}
use Rattle.leased_core.proofs.OnePool.{handed_back}
use Rattle.leased_core.proofs.leased.LeasedCore.close.Goals as goal

pub returns : goal.returns
returns g c =
    subst (λ (s : CoreState). IsHandedBack s c.reclaim.result) c.self.view_is
    (handed_back c.self.inside.leases c.self.inside.core c.reclaim.result c.self.invariant c.reclaim.ensures)

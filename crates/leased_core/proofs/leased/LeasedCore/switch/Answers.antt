use Rattle.std.proofs.Common.{Option, subst}
use Rattle.build_events.specs.CoreState.{CoreState}
use Rattle.build_events.specs.BuildSteps.{OnBuild}
use Rattle.build_events.specs.Verdicts.{HaveSharedKeys}
use Rattle.leased_core.specs.Leasing.{IsBackOf, IsHandedBack, LeasesValue}
use Rattle.leased_core.proofs.OnePool.{handed_back}
use Rattle.leased_core.proofs.leased.LeasedCore.switch.Goals as goal

pub returns-clause-keys : goal.returns-clause-keys
returns-clause-keys g c =
    subst (λ (s : CoreState). OnBuild s.live.build (λ b. HaveSharedKeys b.specs c.in_ok-number.verdicts)) c.self.view_is c.in_ok-number.ensures.keys

pub returns-clause-back : goal.returns-clause-back
returns-clause-back g c =
    subst (λ (s : CoreState). IsHandedBack s c.end_build-back.result) c.self.view_is
    (handed_back c.self.inside.leases c.self.inside.core c.end_build-back.result c.self.invariant
    (subst (λ (leases : Option LeasesValue). IsBackOf leases c.end_build-back.result) c.take.ensures.value c.end_build-back.ensures.pages))

use Rattle.leased_core.proofs.BuildsKept.{follow_step}
use Rattle.leased_core.proofs.leased.LeasedCore.step.Goals as goal

pub invariant_of-self : goal.invariant_of-self
invariant_of-self g c =
    follow_step c.self.inside.leases c.args.event c.self.inside.core c.step.new.self c.step.result c.requires c.step.ensures.step c.self.invariant

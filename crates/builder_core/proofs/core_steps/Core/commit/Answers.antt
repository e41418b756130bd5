use Rattle.builder_core.proofs.core_steps.Core.commit.Goals as goal

pub invariant_of-self-2 : goal.invariant_of-self-2
invariant_of-self-2 g c = c.commit.ensures.works c.self.inside.building c.self.invariant

use Rattle.build_events.specs.declared.event.Event.TheVariants.{Begin}
use Rattle.build_events.specs.declared.reply.Reply.TheVariants.{Begun}
use Rattle.leased_core.proofs.BuildsKept.{follow_answer}
use Rattle.leased_core.proofs.leased.LeasedCore.begin.Goals as goal

pub invariant_of-self : goal.invariant_of-self
invariant_of-self g c = follow_answer Begun c.self.inside.leases Begin c.self.inside.core c.begin.new.self c.begin.result tt c.begin.ensures c.self.invariant

use Rattle.build_events.specs.declared.event.Event.TheVariants.{Insert}
use Rattle.build_events.specs.declared.reply.Reply.TheVariants.{Written}
use Rattle.leased_core.proofs.BuildsKept.{follow_answer}
use Rattle.leased_core.proofs.leased.LeasedCore.insert.Goals as goal

pub invariant_of-self : goal.invariant_of-self
invariant_of-self g c = follow_answer (λ w. Written w.0 w.1) c.self.inside.leases (Insert c.args.txn c.args.row) c.self.inside.core c.insert.new.self c.insert.result tt c.insert.ensures c.self.invariant

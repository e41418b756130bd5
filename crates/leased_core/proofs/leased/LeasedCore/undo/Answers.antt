use Rattle.build_events.specs.declared.event.Event.TheVariants.{Undo}
use Rattle.build_events.specs.declared.reply.Reply.TheVariants.{Undone}
use Rattle.leased_core.proofs.BuildsKept.{follow_answer}
use Rattle.leased_core.proofs.leased.LeasedCore.undo.Goals as goal

pub invariant_of-self : goal.invariant_of-self
invariant_of-self g c = follow_answer (λ undone. Undone undone.number undone.left) c.self.inside.leases (Undo c.args.txn) c.self.inside.core c.undo.new.self c.undo.result tt c.undo.ensures c.self.invariant

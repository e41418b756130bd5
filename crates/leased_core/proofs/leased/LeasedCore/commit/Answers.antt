use Rattle.build_events.specs.declared.event.Event.TheVariants.{Commit}
use Rattle.build_events.specs.declared.reply.Reply.TheVariants.{Committed}
use Rattle.leased_core.proofs.BuildsKept.{follow_answer}
use Rattle.leased_core.proofs.leased.LeasedCore.commit.Goals as goal

pub invariant_of-self : goal.invariant_of-self
invariant_of-self g c = follow_answer Committed c.self.inside.leases (Commit c.args.txn) c.self.inside.core c.commit.new.self c.commit.result tt c.commit.ensures c.self.invariant

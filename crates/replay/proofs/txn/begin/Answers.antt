use Rattle.build_events.proofs.Answered.{answered_done, answered_refused}
use Rattle.build_events.specs.declared.event.Event.TheVariants.{Begin}
use Rattle.build_events.specs.declared.reply.Reply.TheVariants.{Begun}
use Rattle.replay.proofs.txn.begin.Goals as goal

pub returns-clause-ok : goal.returns-clause-ok
returns-clause-ok g c = answered_done Begun c.args.leased.now Begin c.begin.result c.begin.new.self c.begin.ensures

pub returns-clause-refused : goal.returns-clause-refused
returns-clause-refused g c = answered_refused Begun c.args.leased.now Begin c.begin.result c.begin.new.self c.begin.ensures

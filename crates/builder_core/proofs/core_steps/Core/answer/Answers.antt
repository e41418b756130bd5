use Rattle.builder_core.proofs.PageCauses.{wanted_page}
use Rattle.run_spool.specs.Spools.{IsFullIntact}
use Rattle.builder_core.proofs.Told.{stepped}
use Rattle.builder_core.proofs.core_steps.Core.answer.Goals as goal

pub returns-clause-step : goal.returns-clause-step
returns-clause-step g c =
    stepped c.args.self.now c.args.event.now c.attempt-answer.result c.reply.result c.attempt-answer.new.self c.attempt-answer.ensures.answers c.reply.ensures.reply

pub returns-clause-full : goal.returns-clause-full
returns-clause-full g c =
    wanted_page (IsFullIntact g.S.Spool.is_full g.S.Spool.is_intact g.S.Spool.runs) g.S.Spool.runs g.S.Spool.open_run g.S.Spool.stake c.args.self.now c.args.event.now c.attempt-answer.result c.reply.result c.attempt-answer.new.self
    c.attempt-answer.ensures.answers c.reply.ensures.reply c.attempt-answer.ensures.full

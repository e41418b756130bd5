use Rattle.std.proofs.Common.{Option, length, sym, subst}
use Rattle.run_spool.specs.Spools.{IsFullIntact}
use Rattle.build_events.specs.CoreState.{CoreState, BuildState}
use Rattle.build_events.specs.BuildSteps.{OnBuild}
use Rattle.build_events.specs.Steps.{Step}
use Rattle.build_events.specs.Verdicts.{HaveSharedKeys}
use Rattle.build_events.specs.declared.reply.Reply.{Reply}
use Rattle.builder_core.proofs.PageCauses.{wanted_page}
use Rattle.build_events.proofs.SharedKeys.{shared_keys}
use Rattle.build_events.proofs.Switching.{step_stakes, switches}
use Rattle.builder_core.proofs.Told.{stepped}
use Rattle.builder_core.proofs.core_steps.Core.step.Goals as goal

pub returns-clause-step : goal.returns-clause-step
returns-clause-step g c =
    stepped c.args.self.now c.args.event c.attempt_own-answer.result c.reply.result c.attempt_own-answer.new.self c.attempt_own-answer.ensures.answers c.reply.ensures.reply

pub returns-clause-stakes : goal.returns-clause-stakes
returns-clause-stakes g c = step_stakes c.args.self.now c.args.event c.reply.result c.attempt_own-answer.new.self (returns-clause-step g c)

pub returns-clause-keys : goal.returns-clause-keys
returns-clause-keys g c = λ number verdicts is.
    let s : CoreState = c.args.self.now in
    let step = subst (λ (r : Reply). Step s c.args.event r c.attempt_own-answer.new.self) is (returns-clause-step g c) in
    let switch = switches s c.args.event number verdicts c.attempt_own-answer.new.self step in
    subst (λ (o : Option BuildState). OnBuild o (λ b. HaveSharedKeys b.specs verdicts)) (sym switch.running)
    (subst (HaveSharedKeys switch.build.specs) (sym switch.verdicts_are) (shared_keys s.live.heap.log (length s.live.ready) switch.build.specs switch.keyed))

pub returns-clause-full : goal.returns-clause-full
returns-clause-full g c =
    wanted_page (IsFullIntact g.S.Spool.is_full g.S.Spool.is_intact g.S.Spool.runs) g.S.Spool.runs g.S.Spool.open_run g.S.Spool.stake c.args.self.now c.args.event c.attempt_own-answer.result c.reply.result c.attempt_own-answer.new.self
    c.attempt_own-answer.ensures.answers c.reply.ensures.reply c.attempt_own-answer.ensures.full

use Rattle.std.proofs.Common.{subst}
use Rattle.build_events.specs.Steps.{HasPageCause, Step}
use Rattle.build_events.specs.declared.reply.Reply.{Reply}
use Rattle.leased_core.specs.Leasing.{WantedLeasedPage}
use Rattle.kept_table.proofs.Pieces.{does_once, keeps_build, told_does}
use Rattle.kept_table.proofs.Shapes.{held_up}
use Rattle.kept_table.proofs.advancing.attempt.Goals as goal

pub step-requires : goal.step-requires
step-requires g c = keeps_build c.args.event c.requires.work

pub returns-in-Refused-clause-held : goal.returns-in-Refused-clause-held
returns-in-Refused-clause-held g c =
    held_up c.args.counted.now c.step.new.self c.args.event c.in-Refused.fault c.laws.ensures c.requires.work c.requires.there
    (subst (λ (reply : Reply). Step c.args.counted.now c.args.event reply c.step.new.self) c.in-Refused.is c.step.ensures.step)
    (subst (λ (reply : Reply). HasPageCause WantedLeasedPage c.args.counted.now c.args.event reply) c.in-Refused.is c.step.ensures.full)

pub returns-in_default : goal.returns-in_default
returns-in_default g c = record {
  done = does_once c.args.counted.now c.step.new.self c.args.event c.step.result c.requires.work c.in_default.not-Refused c.step.ensures.step;
  told = told_does c.args.counted.now c.step.new.self c.args.event c.step.result c.in_default.not-Refused c.step.ensures.step;
  held = tt;
}

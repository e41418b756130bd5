use Rattle.std.proofs.Common.{Ok, sym, subst}
use Rattle.build_events.specs.Steps.{Answers}
use Rattle.build_events.specs.declared.event.Event.{Event}
use Rattle.build_events.specs.declared.reply.Reply.TheVariants.{Written}
use Rattle.builder_core.proofs.core_steps.Core.attempt.Goals as goal

pub returns-in_ok-number-in-Update-clause-answers : goal.returns-in_ok-number-in-Update-clause-answers
returns-in_ok-number-in-Update-clause-answers g c =
    subst (λ (event : Event). Answers c.args.self.now event (Ok (Written c.in_ok-number-in-Update.number c.in_ok-number-in-Update.rid)) c.update_lent.new.self)
    (sym c.in-Update.is) c.in_ok-number-in-Update.ensures

pub returns-in_ok-number-in-Delete-clause-answers : goal.returns-in_ok-number-in-Delete-clause-answers
returns-in_ok-number-in-Delete-clause-answers g c =
    subst (λ (event : Event). Answers c.args.self.now event (Ok (Written c.in_ok-number-in-Delete.number c.in_ok-number-in-Delete.rid)) c.delete.new.self)
    (sym c.in-Delete.is) c.in_ok-number-in-Delete.ensures

-- A call for an event is a step.
use Rattle.std.proofs.Common.{◌≡◌, Result, Ok, Err, IfOk, IfErr, inl, inr, refl}
use Rattle.keybytes.specs.declared.fault.Fault.{Fault}
use Rattle.build_events.specs.CoreState.{CoreState}
use Rattle.build_events.specs.Steps.{AnswersBy, Step}
use Rattle.build_events.specs.declared.event.Event.{Event}
use Rattle.build_events.specs.declared.reply.Reply.{Reply}
use Rattle.build_events.specs.declared.reply.Reply.TheVariants.{Refused}

-- that is done
pub answered_done :
    {R : Type 0} (told : R → Reply) (s : CoreState) (event : Event) (result : Result R Fault) (new : CoreState) → AnswersBy told s event result new
    → IfOk result (λ answer. Step s event (told answer) new)
answered_done told s event (Ok answer) new done = inr done
answered_done told s event (Err fault) new refused = tt

-- or refused
pub answered_refused :
    {R : Type 0} (told : R → Reply) (s : CoreState) (event : Event) (result : Result R Fault) (new : CoreState) → AnswersBy told s event result new
    → IfErr result (λ fault. Step s event (Refused fault) new)
answered_refused told s event (Ok answer) new done = tt
answered_refused told s event (Err fault) new refused = inl (fault, refl, refused)

-- A run that goes on.
use Rattle.std.proofs.Common.{List, [], ◌∷◌, ◌++◌, refl, subst}
use Rattle.build_events.specs.declared.event.Event.{Event}
use Rattle.build_events.specs.declared.reply.Reply.{Reply}
use Rattle.build_events.specs.CoreState.{CoreState}
use Rattle.build_events.specs.Steps.{HasPageCause, Step, Run}

pub run_more :
    (MissedPage : CoreState → Event → Type 0) (s mid new : CoreState) (events : List Event) (event : Event) (replies : List Reply) (reply : Reply)
    → Run MissedPage s events replies mid → Step mid event reply new → HasPageCause MissedPage mid event reply
    → Run MissedPage s (events ++ event ∷ []) (replies ++ reply ∷ []) new
run_more MissedPage s mid new [] event [] reply run step cause =
    (new, subst (λ (m : CoreState). Step m event reply new) run step, subst (λ (m : CoreState). HasPageCause MissedPage m event reply) run cause, refl)
run_more MissedPage s mid new [] event (r ∷ replies) reply run step cause = absurd run
run_more MissedPage s mid new (e ∷ events) event [] reply run step cause = absurd run
run_more MissedPage s mid new (e ∷ events) event (r ∷ replies) reply run step cause =
    (run.0, run.1, run.2, run_more MissedPage run.0 mid new events event replies reply run.3 step cause)

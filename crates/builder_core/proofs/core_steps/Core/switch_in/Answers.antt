use Rattle.std.proofs.Common.{◌≡◌, None, refl, subst, ℕ, List}
use Rattle.live_lemmas.specs.Builds.{core_state}
use Rattle.build_events.specs.CoreState.{CoreState}
use Rattle.build_events.specs.BuildSteps.{Switches, build_cause, switch_refusal}
use Rattle.build_events.proofs.SharedKeys.{shared_told}
use Rattle.builder_core.proofs.core_steps.Core.switch_in.Goals as goal
use Rattle.heap_log.specs.declared.outcome.Outcome.{Outcome}

pub returns-clause-answers : goal.returns-clause-answers
returns-clause-answers g c = (
  subst (λ (s : CoreState). build_cause s.live.build (λ b. switch_refusal b s.live.heap s.work) ≡ None) c.self.view_is c.in_ok-switched.ensures.accepted,
  (
    (c.in_ok-switched.switched.number, c.in_ok-switched.switched.verdicts),
    refl,
    subst (λ (s : CoreState). Switches s (c.in_ok-switched.switched.number, c.in_ok-switched.switched.verdicts) (core_state c.switch_in.new.self c.switch_in.new.building)) c.self.view_is
        c.in_ok-switched.ensures.switched,
  ),
)

pub returns-clause-keys : goal.returns-clause-keys
returns-clause-keys g c =
    let told : ℕ × List Outcome = (c.in_ok-switched.switched.number, c.in_ok-switched.switched.verdicts) in
    let new : CoreState = core_state c.switch_in.new.self c.switch_in.new.building in
    shared_told c.args.self.now told new (subst (λ (s : CoreState). Switches s told new) c.self.view_is c.in_ok-switched.ensures.switched)

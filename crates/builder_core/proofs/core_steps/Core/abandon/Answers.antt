use Rattle.std.proofs.Common.{◌≡◌, ◌∙◌, IsSome, true, refl, ap, subst}
use Rattle.live_lemmas.specs.Builds.{LiveValue, core_state}
use Rattle.building.specs.BuildingValue.{BuildingValue}
use Rattle.build_events.specs.CoreState.{CoreState, SpoolsState, abandoned, idle, opening}
use Rattle.building.proofs.OneWorker.{ended_stakes}
use Rattle.live_lemmas.proofs.Refusals.{builds_on, given_to}
use Rattle.builder_core.proofs.core_steps.Core.abandon.Goals as goal

pub returns : goal.returns
returns g c =
    let live : LiveValue = c.self.inside.live in
    let building : BuildingValue = c.self.inside.building in
    let runs : IsSome live.state.build = c.in_ok-abandon.ensures.accepted in
    let given : building.given ≡ true =
    given_to live.state.heap.schema live.state.heap.log live.pages live.sides building live.state.build building.work c.self.invariant.work c.self.invariant.workers runs in
    let ended = ended_stakes building given in (
      builds_on c.args.self.now.live.build (subst (λ (s : CoreState). IsSome s.live.build) c.self.view_is runs),
      (
        refl,
        ap (λ (l : LiveValue). core_state l c.give_up.new.self) c.in_ok-abandon.ensures.abandoned
            ∙ ap (core_state (record live { state = abandoned live.state })) c.give_up.ensures
            ∙ ap (λ (s : SpoolsState). record { live = abandoned live.state; work = idle; spools = s }) ended
            ∙ ap (λ (s : CoreState). opening s.live s.spools) c.self.view_is,
      ),
    )

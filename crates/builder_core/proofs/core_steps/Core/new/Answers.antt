use Rattle.std.proofs.Common.{◌∙◌, ap}
use Rattle.live_lemmas.specs.Builds.{LiveValue, core_state}
use Rattle.build_events.specs.CoreState.{abandoned, opening}
use Rattle.building.proofs.LeftBeside.{spools_handed}
use Rattle.builder_core.proofs.core_steps.Core.new.Goals as goal

pub returns : goal.returns
returns g c =
    let live : LiveValue = c.args.live in
    let spool = g.S.Spool in
    ap (λ (l : LiveValue). core_state l c.new.result) c.give_up.ensures.state
    ∙ ap (core_state (record live { state = abandoned live.state })) c.new.ensures
    ∙ ap (opening live.state) (spools_handed spool.runs spool.open_run spool.stake c.args.spools.items)

use Rattle.std.proofs.Common.{◌∙◌, ap}
use Rattle.live_lemmas.specs.Builds.{LiveValue, core_state}
use Rattle.build_events.specs.CoreState.{CoreState, abandoned, opening}
use Rattle.building.specs.Holding.{spools_in}
use Rattle.building.proofs.LeftBeside.{spools_handed}
use Rattle.builder_core.proofs.core_steps.Core.exchange_spools.Goals as goal

pub returns-clause-core : goal.returns-clause-core
returns-clause-core g c =
    let live : LiveValue = c.self.inside.live in
    let spool = g.S.Spool in
    ap (λ (l : LiveValue). core_state l c.exchange.new.self) c.give_up.ensures.state
    ∙ ap (core_state (record live { state = abandoned live.state })) c.exchange.ensures.left
    ∙ ap (opening live.state) (spools_handed spool.runs spool.open_run spool.stake c.args.spools.items)
    ∙ ap (λ (s : CoreState). opening s.live (spools_in spool.runs spool.open_run spool.stake c.args.spools.items)) c.self.view_is

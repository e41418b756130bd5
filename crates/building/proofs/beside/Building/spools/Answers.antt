use Rattle.std.proofs.Common.{◌∙◌, ap, map, sym}
use Rattle.index_load.proofs.SpoolsSeen.{stakes_seen}
use Rattle.building.specs.BuildingValue.{BuildingValue}
use Rattle.building.specs.Holding.{all_spools}
use Rattle.page_workers.specs.SpoolValue.{SpoolValue, spool_value}
use Rattle.building.proofs.LeftBeside.{at_home}
use Rattle.building.proofs.beside.Building.spools.Goals as goal

pub returns-clause-stakes : goal.returns-clause-stakes
returns-clause-stakes g c = λ none.
    let spool = g.S.Spool in
    let value = spool_value spool.runs spool.open_run spool.stake in
    let items = c.self.inside.spools.items in
    let idle = c.self.invariant.3 (ap (λ (b : BuildingValue). b.work) c.self.view_is ∙ none) in
    ap (map spool.stake) c.as_slice.ensures.value
    ∙ stakes_seen spool.runs spool.open_run spool.stake items
    ∙ ap (map (λ (s : SpoolValue). s.stake)) (sym (at_home c.self.inside.workers.items (map value items) idle))
    ∙ ap (λ (b : BuildingValue). map (λ (s : SpoolValue). s.stake) (all_spools b.workers b.spools)) c.self.view_is

use Rattle.std.proofs.Common.{◌∙◌, List, map, sym, ap}
use Rattle.std.specs.List.{list_all}
use Rattle.run_spool.specs.Spools.{holds_nothing}
use Rattle.page_workers.specs.SpoolValue.{SpoolValue, spool_value}
use Rattle.building.specs.BuildingValue.{BuildingValue}
use Rattle.building.specs.Holding.{all_spools, spools_state}
use Rattle.building.proofs.LeftBeside.{at_home, left_seen}
use Rattle.building.proofs.beside.Building.are_left_empty.Goals as goal

pub returns-else-self : goal.returns-else-self
returns-else-self g c =
    let spool = g.S.Spool in
    let value = spool_value spool.runs spool.open_run spool.stake in
    let items = c.self.inside.spools.items in
    let idle = c.self.invariant.3 (c.self.invariant.4 c.if-self.false) in
    c.are_empty.ensures ∙ ap (list_all (λ s. holds_nothing (spool.runs s) (spool.open_run s))) c.as_slice.ensures.value
    ∙ left_seen spool.runs spool.open_run spool.stake c.self.inside.given items c.if-self.false
    ∙ ap (λ (l : List SpoolValue). list_all (λ is_empty. is_empty) (spools_state c.self.inside.given l).left) (sym (at_home c.self.inside.workers.items (map value items) idle))
    ∙ ap (λ (b : BuildingValue). list_all (λ is_empty. is_empty) (spools_state b.given (all_spools b.workers b.spools)).left) c.self.view_is

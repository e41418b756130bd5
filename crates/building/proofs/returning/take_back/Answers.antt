use Rattle.std.proofs.Common.{◌∙◌, map, ap}
use Rattle.page_workers.specs.SpoolValue.{SpoolValue}
use Rattle.index_load.proofs.SpoolsSeen.{stakes_seen}
use Rattle.building.proofs.BroughtHome.{rings_kept}
use Rattle.building.proofs.returning.take_back.Goals as goal

pub returns-clause-idle : goal.returns-clause-idle
returns-clause-idle g c =
    c.free_rings.ensures.idle ∙ rings_kept c.args.workers.now.items c.bring_home.new.workers.items c.args.idle.now.items c.bring_home.ensures.workers

pub returns-clause-stakes : goal.returns-clause-stakes
returns-clause-stakes g c =
    let spool = g.S.Spool in
    c.end_spools.ensures.stakes ∙ stakes_seen spool.runs spool.open_run spool.stake c.bring_home.new.spools.items
    ∙ ap (map (λ (s : SpoolValue). s.stake)) c.bring_home.ensures.spools

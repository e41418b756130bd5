use Rattle.std.proofs.Common.{◌++◌, List, map, ap, ◌∙◌}
use Rattle.std.specs.Vec.Iter.{into_iter_items}
use Rattle.page_workers.specs.SpoolValue.{spool_value}
use Rattle.page_workers.specs.WorkerValue.{WorkerValue}
use Rattle.building.specs.Holding.{workers_spools}
use Rattle.building.proofs.Equipping.{more_lent}
use Rattle.building.proofs.equipment.add_one.Goals as goal

pub returns-clause-lent : goal.returns-clause-lent
returns-clause-lent g c =
    let spool = g.S.Spool in
    let value = spool_value spool.runs spool.open_run spool.stake in
    let workers : List WorkerValue = c.args.workers.now.items in
    ap (λ (ws : List WorkerValue). workers_spools ws ++ map value (into_iter_items c.lend.new.rest)) c.push_reserved.ensures.items
    ∙ more_lent value workers c.new.result c.lend.new.own.items (into_iter_items c.args.rest.now) (into_iter_items c.lend.new.rest) c.len.result
    (ap (λ (w : WorkerValue). w.spools) c.new.ensures) c.lend.ensures.own c.lend.ensures.rest

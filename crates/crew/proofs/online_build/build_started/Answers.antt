use Rattle.std.proofs.Common.{ap, ◌∙◌}
use Rattle.building.proofs.OneWorker.{the_work}
use Rattle.building.specs.BuildingValue.{WorkValue}
use Rattle.crew.proofs.Gathered.{gathered_goes_on, gathered_scans, gathered_stakes}
use Rattle.crew.proofs.Places.{all_back}
use Rattle.crew.proofs.online_build.build_started.Goals as goal

pub gather-building-requires : goal.gather-building-requires
gather-building-requires g c =
    all_back g.T.TableRings.pages c.lend-workers.result.1 c.lend-workers.result.0.items c.scan_all-workers.result.0.items c.scan_all-workers.ensures.back c.lend-workers.ensures.back

pub returns-in-Err-clause-stakes : goal.returns-in-Err-clause-stakes
returns-in-Err-clause-stakes g c =
    gathered_stakes c.args.building c.lend-workers.result.1 c.gather-building.result c.lend-workers.result.0.items c.scan_all-workers.result.0.items
    c.lend-workers.ensures.workers c.lend-workers.ensures.rest c.scan_all-workers.ensures.back c.gather-building.ensures c.requires.goes_on.work c.requires.goes_on.runs

pub finish-requires-clause-scans : goal.finish-requires-clause-scans
finish-requires-clause-scans g c = λ κs within.
    let its = the_work c.args.building.work c.requires.goes_on.work c.requires.lendable.work c.requires.goes_on.runs c.requires.lendable.runs in
    gathered_scans c.args.building c.lend-workers.result.1 c.gather-building.result c.lend-workers.result.0.items c.scan_all-workers.result.0.items
    c.lend-workers.ensures.workers c.lend-workers.ensures.rest c.scan_all-workers.ensures.back c.gather-building.ensures c.requires.goes_on.work c.requires.goes_on.runs
    (ap (λ (w : WorkValue). w.handed) its ∙ c.requires.lendable.scans)

pub finish-requires-clause-goes_on : goal.finish-requires-clause-goes_on
finish-requires-clause-goes_on g c = λ κs within.
    gathered_goes_on c.args.building c.lend-workers.result.1 c.gather-building.result c.lend-workers.result.0.items c.scan_all-workers.result.0.items
    c.lend-workers.ensures.workers c.lend-workers.ensures.rest c.scan_all-workers.ensures.back c.gather-building.ensures c.requires.goes_on.work c.requires.goes_on.runs
    (rw c.in_default.is at c.scan_all-workers.ensures.fine) c.args.plan.now.specs.items c.requires.goes_on

pub returns-clause-stakes : goal.returns-clause-stakes
returns-clause-stakes g c =
    c.finish.ensures.stakes
    ∙ gathered_stakes c.args.building c.lend-workers.result.1 c.gather-building.result c.lend-workers.result.0.items c.scan_all-workers.result.0.items
    c.lend-workers.ensures.workers c.lend-workers.ensures.rest c.scan_all-workers.ensures.back c.gather-building.ensures c.requires.goes_on.work c.requires.goes_on.runs

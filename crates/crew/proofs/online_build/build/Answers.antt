use Rattle.std.proofs.Common.{ap, ◌∙◌}
use Rattle.building.specs.BuildingValue.{BuildingValue}
use Rattle.crew.proofs.HandedIn.{handed_stakes, not_all_empty}
use Rattle.crew.proofs.online_build.build.Goals as goal

pub returns-in-Ok-clause-stakes : goal.returns-in-Ok-clause-stakes
returns-in-Ok-clause-stakes g c =
    c.into_parts-ends.ensures.stakes ∙ c.build_beside-building.ensures.stakes
    ∙ handed_stakes g.S.Spool.runs g.S.Spool.open_run g.S.Spool.stake c.args.spools.items c.new-building.result
    (ap (λ (b : BuildingValue). b.workers) c.new-building.ensures) (ap (λ (b : BuildingValue). b.spools) c.new-building.ensures)

pub returns-in-Err-clause-stakes : goal.returns-in-Err-clause-stakes
returns-in-Err-clause-stakes g c =
    c.into_parts-ends.ensures.stakes ∙ c.build_beside-building.ensures.stakes
    ∙ handed_stakes g.S.Spool.runs g.S.Spool.open_run g.S.Spool.stake c.args.spools.items c.new-building.result
    (ap (λ (b : BuildingValue). b.workers) c.new-building.ensures) (ap (λ (b : BuildingValue). b.spools) c.new-building.ensures)

pub returns-in-Err-clause-not_empty : goal.returns-in-Err-clause-not_empty
returns-in-Err-clause-not_empty g c = λ is all.
    not_all_empty g.S.Spool.runs g.S.Spool.open_run g.S.Spool.stake c.args.spools.items c.new-building.result
    (ap (λ (b : BuildingValue). b.workers) c.new-building.ensures) (ap (λ (b : BuildingValue). b.spools) c.new-building.ensures)
    (ap (λ (b : BuildingValue). b.given) c.new-building.ensures) ((rw c.in-Err.is at c.build_beside-building.ensures.not_empty) is) all

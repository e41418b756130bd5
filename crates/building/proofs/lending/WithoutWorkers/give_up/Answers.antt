use Rattle.std.proofs.Common.{◌∙◌, ◌-◌, ◌*◌, List, Option, IfSome, length, map, ap, subst, arith}
use Rattle.page_workers.specs.SpoolValue.{SpoolValue, spool_value}
use Rattle.building.specs.BuildingValue.{WorkValue}
use Rattle.building.specs.Equipped.{HasRoomFor}
use Rattle.building.specs.Holding.{all_spools}
use Rattle.building.proofs.lending.WithoutWorkers.give_up.Goals as goal

pub take_back-requires-clause-places : goal.take_back-requires-clause-places
take_back-requires-clause-places g c =
    let spool = g.S.Spool in
    let value = spool_value spool.runs spool.open_run spool.stake in
    let home = subst (λ (o : Option WorkValue). IfSome o (λ work. HasRoomFor ((16 - length c.args.self.idle) * length work.specs) c.into_parts-intakes.result.2))
    c.requires.runs c.into_parts-intakes.ensures.room in
    let all = ap (λ (l : List SpoolValue). length (all_spools c.args.workers.items l)) (ap (map value) home.none) in
    omega (arith, all, c.requires.spools, home.room)

pub returns-clause-stakes : goal.returns-clause-stakes
returns-clause-stakes g c =
    let spool = g.S.Spool in
    let value = spool_value spool.runs spool.open_run spool.stake in
    let home = subst (λ (o : Option WorkValue). IfSome o (λ work. HasRoomFor ((16 - length c.args.self.idle) * length work.specs) c.into_parts-intakes.result.2))
    c.requires.runs c.into_parts-intakes.ensures.room in
    c.take_back.ensures.stakes
    ∙ ap (λ (l : List SpoolValue). map (λ (s : SpoolValue). s.stake) (all_spools c.args.workers.items l)) (ap (map value) home.none)

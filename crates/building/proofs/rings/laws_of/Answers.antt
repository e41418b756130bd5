use Rattle.std.proofs.Common.{All, subst}
use Rattle.std.proofs.lemmas.List.{take_all}
use Rattle.std.proofs.lemmas.List.Elements.{All-more}
use Rattle.page_workers.proofs.Places.{all_at, at_index}
use Rattle.building.specs.Keeping.{HasItsRing, KeepsLaws}
use Rattle.building.proofs.rings.laws_of.Goals as goal

pub loop-worker-preserved : goal.loop-worker-preserved
loop-worker-preserved g c =
    let its = c.laws.ensures in
    let workers = c.args.workers.now in
    let k = c.loop-worker.worker-index in
    let it = c.worker-item.result in
    let ring = all_at (HasItsRing g.T.TableRings.pages) workers k it c.requires (at_index workers k it c.worker-item.is c.loop-worker-test.true) in
    All-more (KeepsLaws g.T.TableRings.pages) c.args.workers.now c.loop-worker.worker-index c.worker-item.result c.loop-worker-test.true c.loop-worker.invariant
    (subst (KeepsLaws g.T.TableRings.pages) c.worker-item.is
    (record { ring = ring; begun = its.begun; columns = its.columns; counting = its.counts; holding = its.holds }))

pub returns : goal.returns
returns g c = subst (All (KeepsLaws g.T.TableRings.pages)) (take_all c.loop-worker.worker-index c.args.workers.now c.loop-worker-test.false) c.loop-worker.invariant

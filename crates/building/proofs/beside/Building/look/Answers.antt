use Rattle.std.proofs.Common.{◌<◌, List, length, ap, arith}
use Rattle.page_workers.specs.WorkerValue.{WorkerValue}
use Rattle.page_workers.proofs.Places.{at_index}
use Rattle.building.specs.BuildingValue.{BuildingValue}
use Rattle.building.proofs.Looked.{beside_looked, unseen_after}
use Rattle.building.proofs.Stepping.{looked_step}
use Rattle.building.proofs.beside.Building.look.Goals as goal

pub invariant_of-self : goal.invariant_of-self
invariant_of-self g c =
    let workers : List WorkerValue = c.self.inside.workers.items in
    let it : WorkerValue = c.index_mut.result.now in
    let less : c.args.worker < length workers = omega (arith, c.requires, ap (λ (b : BuildingValue). length b.workers) c.self.view_is) in
    let at = at_index workers c.args.worker it c.index_mut.ensures.value less in
    beside_looked _ _ workers _ c.self.inside.idle.items _ _ _ _ _ _ _ (unseen_after workers c.args.worker it c.look.new.self c.look.result at c.look.ensures)
    c.self.invariant

pub returns : goal.returns
returns g c =
    let workers : List WorkerValue = c.self.inside.workers.items in
    let it : WorkerValue = c.index_mut.result.now in
    let less : c.args.worker < length workers = omega (arith, c.requires, ap (λ (b : BuildingValue). length b.workers) c.self.view_is) in
    let at = at_index workers c.args.worker it c.index_mut.ensures.value less in
    looked_step c.args.self.now _ c.self.view_is c.args.worker it c.look.new.self c.look.result at c.look.ensures

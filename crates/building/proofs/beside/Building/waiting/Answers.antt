use Rattle.std.proofs.Common.{length, ap, arith}
use Rattle.building.specs.BuildingValue.{BuildingValue}
use Rattle.building.proofs.Looked.{beside_looked}
use Rattle.building.proofs.Looks.{few_looked, few_with_pages, ring_at}
use Rattle.building.proofs.beside.Building.waiting.Goals as goal

pub waiting-requires-clause-there : goal.waiting-requires-clause-there
waiting-requires-clause-there g c =
    let many = ap (λ (b : BuildingValue). length b.workers) c.self.view_is in
    omega (arith, many, c.requires.there)

pub waiting-requires-clause-few : goal.waiting-requires-clause-few
waiting-requires-clause-few g c = few_with_pages _ _ c.self.inside.workers.items c.self.inside.idle.items _ c.self.invariant.0 c.args.pages.now.items c.requires.rings

pub waiting-requires-clause-at : goal.waiting-requires-clause-at
waiting-requires-clause-at g c = ring_at _ _ c.self.inside.workers.items c.self.inside.idle.items _ c.self.invariant.0

pub invariant_of-self : goal.invariant_of-self
invariant_of-self g c =
    beside_looked _ _ c.self.inside.workers.items c.waiting.new.workers.items c.self.inside.idle.items _ _ _ _ _ _ _ c.waiting.ensures.looked.same c.self.invariant

pub returns-clause-few : goal.returns-clause-few
returns-clause-few g c =
    few_looked _ _ c.self.inside.workers.items c.self.inside.idle.items _ c.self.invariant.0 c.waiting.new.workers.items c.waiting.ensures.looked.same

use Rattle.std.proofs.Common.{All, subst, sym}
use Rattle.building.proofs.Looked.{beside_looked}
use Rattle.building.proofs.Looks.{ends_same, few_with_pages, ring_at, rings_looked}
use Rattle.building.proofs.Numbered.{numbered_looked, their_rings}
use Rattle.building.specs.Keeping.{HasItsRing}
use Rattle.building.proofs.beside.Building.first_unsealed.Goals as goal

pub first_unsealed-unsealed-requires-clause-few : goal.first_unsealed-unsealed-requires-clause-few
first_unsealed-unsealed-requires-clause-few g c =
    few_with_pages _ _ c.self.inside.workers.items c.self.inside.idle.items _ c.self.invariant.0 c.args.pages.now.items c.requires

pub first_unsealed-unsealed-requires-clause-at : goal.first_unsealed-unsealed-requires-clause-at
first_unsealed-unsealed-requires-clause-at g c = ring_at _ _ c.self.inside.workers.items c.self.inside.idle.items _ c.self.invariant.0

pub laws_of-requires : goal.laws_of-requires
laws_of-requires g c =
    let old = c.self.inside.workers.items in
    let new = c.first_unsealed-unsealed.new.workers.items in
    let same = c.first_unsealed-unsealed.ensures.looked.same in
    let ends = ends_same _ _ old new c.self.inside.idle.items _ c.self.invariant.0 (rings_looked old new same) in
    subst (All (HasItsRing g.T.TableRings.pages)) (sym c.deref.ensures.value)
    (their_rings _ _ new c.self.inside.idle.items _ ends (numbered_looked old new same c.self.invariant.7))

pub invariant_of-self : goal.invariant_of-self
invariant_of-self g c =
    beside_looked _ _ c.self.inside.workers.items c.first_unsealed-unsealed.new.workers.items c.self.inside.idle.items _ _ _ _ _ _ _
    c.first_unsealed-unsealed.ensures.looked.same c.self.invariant

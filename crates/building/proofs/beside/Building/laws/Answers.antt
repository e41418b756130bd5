use Rattle.std.proofs.Common.{All, subst, sym}
use Rattle.building.specs.BuildingValue.{BuildingValue, intakes}
use Rattle.building.specs.Keeping.{HasItsRing}
use Rattle.building.specs.Rings.{AreTakeEnds}
use Rattle.building.proofs.Numbered.{their_rings}
use Rattle.building.proofs.beside.Building.laws.Goals as goal

pub laws_of-requires : goal.laws_of-requires
laws_of-requires g c =
    subst (All (HasItsRing g.T.TableRings.pages)) (sym c.deref.ensures.value) (their_rings _ _ c.self.inside.workers.items c.self.inside.idle.items _ c.self.invariant.0 c.self.invariant.7)

pub returns-clause-ends : goal.returns-clause-ends
returns-clause-ends g c =
    subst (λ (b : BuildingValue). AreTakeEnds g.T.TableRings.pages g.T.TableRings.sides (intakes b.workers b.idle) b.sides) c.self.view_is c.self.invariant.0

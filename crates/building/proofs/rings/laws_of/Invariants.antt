use Rattle.std.proofs.Common.{All, take}
use Rattle.building.specs.Keeping.{KeepsLaws}
use Rattle.building.proofs.rings.laws_of.Given as goal

abbrev pub invariant-loop-worker : goal.invariant-loop-worker
invariant-loop-worker g l = All (KeepsLaws g.T.TableRings.pages) (take l.worker-index l.workers)

use Rattle.std.proofs.Common.{ap, subst}
use Rattle.heap_log.specs.LogValue.{LogValue}
use Rattle.heap_log.specs.Growing.{UndoesNameEarlier}
use Rattle.heap_log.proofs.log.Log.laws.Goals as goal

pub returns : goal.returns
returns c = subst UndoesNameEarlier (ap (λ (v : LogValue). v.records) c.self.view_is) c.self.invariant.links.earlier

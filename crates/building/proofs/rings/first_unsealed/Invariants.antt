use Rattle.building.specs.Rings.{all_sent, AreLooked, FirstAreSealed}
use Rattle.building.proofs.rings.first_unsealed.Given as goal

abbrev pub invariant-loop-worker : goal.invariant-loop-worker
invariant-loop-worker g l = record {
  looked : AreLooked l.fn.pages.items l.fn.workers.items l.pages.items l.workers.items;
  sealed : FirstAreSealed l.worker (all_sent l.pages.items) l.workers.items;
}

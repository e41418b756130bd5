use Rattle.std.proofs.Common.{subst}
use Rattle.keybytes.specs.Pairs.{HaveKeysOf, AreInColumnOrder}
use Rattle.ready_indexes.specs.Following.{GuardedIndex}
use Rattle.ready_indexes.proofs.ready_index.ReadyIndex.tree.Goals as goal

pub returns-clause-keys : goal.returns-clause-keys
returns-clause-keys c = subst (λ (it : GuardedIndex). HaveKeysOf it.index.spec it.index.pairs) c.self.view_is c.self.invariant.keys

pub returns-clause-order : goal.returns-clause-order
returns-clause-order c = subst (λ (it : GuardedIndex). AreInColumnOrder it.index.spec it.index.pairs) c.self.view_is c.self.invariant.order

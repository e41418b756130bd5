use Rattle.std.specs.Vec.Iter.{into_iter_items}
use Rattle.race.specs.Commands.{Left, LosesNothing, RollsBackAll}
use Rattle.race.proofs.session.running.Running.roll_back_all.Given as goal

-- once the other transactions are rolled back, all are
abbrev pub invariant-loop-txn : goal.invariant-loop-txn
invariant-loop-txn g l =
    (goal.iterator-loop-txn g).can_next l.txn-iterator × (goal.iterator-loop-txn g).is_finite l.txn-iterator ×
    LosesNothing (record { log = l.initial.session; receipts = l.initial.self.receipts.items }) (record { log = l.session; receipts = l.self.receipts.items }) ×
    ((end : Left) → RollsBackAll (into_iter_items l.txn-iterator) (record { log = l.session; receipts = l.self.receipts.items }) end
    → RollsBackAll l.fn.self.open_txns.items (record { log = l.initial.session; receipts = l.initial.self.receipts.items }) end)

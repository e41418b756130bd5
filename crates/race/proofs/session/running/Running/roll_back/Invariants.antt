use Rattle.race.specs.Commands.{LosesNothing, RollsBack}
use Rattle.race.proofs.session.running.Running.roll_back.Given as goal

abbrev pub invariant-loop : goal.invariant-loop
invariant-loop g l = record {
  kept : LosesNothing (record { log = l.initial.session; receipts = l.initial.self.receipts.items })
      (record { log = l.session; receipts = l.self.receipts.items });
  rolled : RollsBack l.txn (record { log = l.initial.session; receipts = l.initial.self.receipts.items })
      (record { log = l.session; receipts = l.self.receipts.items });
}

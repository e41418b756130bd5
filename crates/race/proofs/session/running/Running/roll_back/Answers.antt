use Rattle.race.specs.Commands.{Left}
use Rattle.race.proofs.RolledBack.{loses_both, rolled_both}
use Rattle.race.proofs.session.running.Running.roll_back.Goals as goal

pub returns-in_err-undo_patiently-clause-rolls_back : goal.returns-in_err-undo_patiently-clause-rolls_back
returns-in_err-undo_patiently-clause-rolls_back g c = rolled_both c.args.txn _ _ _ c.loop.invariant.rolled c.undo_patiently.ensures.rolls_back

pub returns-then-branch-eq0-clause-rolls_back : goal.returns-then-branch-eq0-clause-rolls_back
returns-then-branch-eq0-clause-rolls_back g c = rolled_both c.args.txn _ _ _ c.loop.invariant.rolled c.undo_patiently.ensures.rolls_back

pub loop-preserved : goal.loop-preserved
loop-preserved g c =
    let old : Left = record { log = c.args.session.now; receipts = c.args.self.now.receipts.items } in
    let mid : Left = record { log = c.loop.session; receipts = c.loop.self.receipts.items } in
    let new : Left = record { log = c.undo_patiently.new.session; receipts = c.undo_patiently.new.self.receipts.items } in
    record {
      kept = loses_both old mid new c.loop.invariant.kept c.undo_patiently.ensures.kept;
      rolled = rolled_both c.args.txn old mid new c.loop.invariant.rolled c.undo_patiently.ensures.rolls_back;
    }

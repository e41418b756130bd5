use Rattle.race.specs.Commands.{Left}
use Rattle.race.proofs.RolledBack.{loses_both, rolled_more, told_loses}
use Rattle.race.proofs.session.running.Running.undo_patiently.Goals as goal

pub returns-in_default : goal.returns-in_default
returns-in_default g c = record {
  left = tt;
  kept = loses_both _ _ _ c.loop.invariant.kept (told_loses c.args.txn _ _ c.undo_step.result c.undo_step.ensures.ok c.undo_step.ensures.refused);
  rolls_back = rolled_more c.args.txn _ _ _ c.undo_step.result c.loop.invariant.rolled c.undo_step.ensures.ok c.undo_step.ensures.refused;
}

pub returns-in_default-2-clause-rolls_back : goal.returns-in_default-2-clause-rolls_back
returns-in_default-2-clause-rolls_back g c =
    rolled_more c.args.txn _ _ _ c.undo_step.result c.loop.invariant.rolled c.undo_step.ensures.ok c.undo_step.ensures.refused

pub loop-preserved : goal.loop-preserved
loop-preserved g c =
    let old : Left = record { log = c.args.session.now; receipts = c.args.self.now.receipts.items } in
    let mid : Left = record { log = c.loop.session; receipts = c.loop.self.receipts.items } in
    let new : Left = record { log = c.undo_step.new.session; receipts = c.undo_step.new.self.receipts.items } in
    record {
      kept = loses_both old mid new c.loop.invariant.kept
          (told_loses c.args.txn mid new c.undo_step.result c.undo_step.ensures.ok c.undo_step.ensures.refused);
      rolled = rolled_more c.args.txn old mid new c.undo_step.result c.loop.invariant.rolled c.undo_step.ensures.ok c.undo_step.ensures.refused;
    }

pub returns-clause-rolls_back : goal.returns-clause-rolls_back
returns-clause-rolls_back g c =
    rolled_more c.args.txn _ _ _ c.undo_step-2.result c.loop.invariant.rolled c.undo_step-2.ensures.ok c.undo_step-2.ensures.refused

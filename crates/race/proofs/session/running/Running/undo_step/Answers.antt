use Rattle.race.proofs.RolledBack.{left_standing}
use Rattle.race.proofs.session.running.Running.undo_step.Goals as goal

pub returns-in_default-clause-left : goal.returns-in_default-clause-left
returns-in_default-clause-left g c =
    let told = c.in_ok-receipt.ensures in
    left_standing c.args.txn c.in_ok-receipt.field-0.left c.args.session.now c.undo.new.self c.in_ok-receipt.field-0.receipt told.receipt told.left told.none

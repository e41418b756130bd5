use Rattle.replay.proofs.Statuses.{approved}
use Rattle.replay.proofs.report.check_text.Goals as goal

pub returns-in-Ok-clause-status : goal.returns-in-Ok-clause-status
returns-in-Ok-clause-status g c = approved c.approve.result c.exit_status.result c.approve.ensures c.exit_status.ensures

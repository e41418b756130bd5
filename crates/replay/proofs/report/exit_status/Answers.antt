use Rattle.replay.proofs.Statuses.{numbered}
use Rattle.replay.proofs.report.exit_status.Goals as goal

pub returns-in-Ok : goal.returns-in-Ok
returns-in-Ok c = rw c.in-Ok.is (numbered c.in-Ok.status)

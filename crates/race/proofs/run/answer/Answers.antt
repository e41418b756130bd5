use Rattle.std.proofs.Common.{inr}
use Rattle.race.proofs.run.answer.Goals as goal

pub returns-in_ok-print-in-Ok : goal.returns-in_ok-print-in-Ok
returns-in_ok-print-in-Ok g c = inr (c.in-Ok.report, c.in-Ok.ensures, c.status.ensures)

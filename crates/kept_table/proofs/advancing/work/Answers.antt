use Rattle.kept_table.proofs.Shapes.{stops_if_held}
use Rattle.kept_table.proofs.advancing.work.Goals as goal

pub returns-clause-refused : goal.returns-clause-refused
returns-clause-refused g c =
    stops_if_held c.attempt.result c.args.counted.now c.attempt.new.counted c.args.event c.requires.waits c.attempt.ensures.held

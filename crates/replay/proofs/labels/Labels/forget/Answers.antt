use Rattle.replay.proofs.LabelNames.{renamed_before}
use Rattle.std.proofs.Common.{None}
use Rattle.replay.proofs.labels.Labels.forget.Goals as goal

pub returns-clause-none : goal.returns-clause-none
returns-clause-none c = renamed_before c.args.self.now c.unname.new.self c.make_room.new.self c.args.label.now None c.unname.ensures c.make_room.ensures.same

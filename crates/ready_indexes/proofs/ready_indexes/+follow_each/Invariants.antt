use Rattle.std.proofs.Common.{length}
use Rattle.ready_indexes.proofs.ready_indexes.+follow_each.Given as goal

abbrev pub decreases-follow_each : goal.decreases-follow_each
decreases-follow_each l = length l.indexes.now

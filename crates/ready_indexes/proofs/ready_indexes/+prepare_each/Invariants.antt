use Rattle.std.proofs.Common.{length}
use Rattle.ready_indexes.proofs.ready_indexes.+prepare_each.Given as goal

abbrev pub decreases-prepare_each : goal.decreases-prepare_each
decreases-prepare_each l = length l.indexes.now

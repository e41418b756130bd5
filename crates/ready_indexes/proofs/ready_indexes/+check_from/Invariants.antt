use Rattle.std.proofs.Common.{length}
use Rattle.ready_indexes.proofs.ready_indexes.+check_from.Given as goal

abbrev pub decreases-check_from : goal.decreases-check_from
decreases-check_from l = length l.indexes.now

use Rattle.std.proofs.Common.{length}
use Rattle.ready_indexes.proofs.ready_indexes.+laws_of.Given as goal

abbrev pub decreases-laws_of : goal.decreases-laws_of
decreases-laws_of l = length l.indexes.now

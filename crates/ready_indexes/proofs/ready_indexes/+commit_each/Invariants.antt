use Rattle.std.proofs.Common.{length}
use Rattle.ready_indexes.proofs.ready_indexes.+commit_each.Given as goal

abbrev pub decreases-commit_each : goal.decreases-commit_each
decreases-commit_each l = length l.indexes.now

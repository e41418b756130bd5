use Rattle.std.proofs.Common.{length}
use Rattle.btree.specs.Left.{pairs_left}
use Rattle.unique_verdict.proofs.CountingFacts.{IsTallied}
use Rattle.unique_verdict.proofs.tally.Tally.of.Given as goal

abbrev pub invariant-loop-pair : goal.invariant-loop-pair
invariant-loop-pair l = IsTallied l.tree.pairs (pairs_left l.pairs) l.before l.shared.pairs

abbrev pub decreases-loop-pair : goal.decreases-loop-pair
decreases-loop-pair l = length (pairs_left l.pairs)

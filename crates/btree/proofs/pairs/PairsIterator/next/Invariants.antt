use Rattle.std.proofs.Common.{◌≡◌}
use Rattle.btree.specs.From.{above_next}
use Rattle.btree.specs.Left.{marks_of, pairs_left}
use Rattle.btree.proofs.pairs.PairsIterator.next.Given as goal

abbrev pub invariant-loop-first : goal.invariant-loop-first
invariant-loop-first l = pairs_left l.self ≡ pairs_left l.fn.self

abbrev pub decreases-loop-first : goal.decreases-loop-first
decreases-loop-first l = above_next l.self.next (marks_of l.self.root)

use Rattle.std.proofs.Common.{◌≡◌}
use Rattle.btree.specs.Left.{pairs_left}
use Rattle.race.proofs.resting.has_pairs.Given as goal

abbrev pub invariant-loop-pair : goal.invariant-loop-pair
invariant-loop-pair l =
    (goal.iterator-loop-pair).can_next l.pair-iterator ×
    (goal.iterator-loop-pair).is_finite l.pair-iterator ×
    (pairs_left l.pair-iterator ≡ l.left → l.tree.pairs ≡ l.pairs) ×
    (l.tree.pairs ≡ l.pairs → pairs_left l.pair-iterator ≡ l.left)

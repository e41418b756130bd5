use Rattle.std.specs.List.{All}
use Rattle.keybytes.specs.Keys.{IsKeyOf}
use Rattle.keybytes.specs.declared.pair.Pair.{Pair}
use Rattle.btree.specs.Left.{pairs_left}
use Rattle.picture.proofs.gains.add_pairs.Given as goal

abbrev pub invariant-loop-pair : goal.invariant-loop-pair
invariant-loop-pair l =
    (goal.iterator-loop-pair).can_next l.pair-iterator × (goal.iterator-loop-pair).is_finite l.pair-iterator
    × All (λ (pair : Pair). IsKeyOf l.spec pair.key) (pairs_left l.pair-iterator)

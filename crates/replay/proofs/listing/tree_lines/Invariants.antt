use Rattle.std.proofs.Common.{◌≡◌, ◌++◌, List}
use Rattle.std.specs.List.{AllZip, All}
use Rattle.keybytes.specs.Keys.{IsKeyOf}
use Rattle.keybytes.specs.declared.pair.Pair.{Pair}
use Rattle.btree.specs.Left.{pairs_left}
use Rattle.replay.specs.Listings.{ListsPair}
use Rattle.replay.proofs.listing.tree_lines.Given as goal

abbrev pub invariant-loop-pair : goal.invariant-loop-pair
invariant-loop-pair l =
    (goal.iterator-loop-pair).can_next l.pair-iterator ×
    (goal.iterator-loop-pair).is_finite l.pair-iterator ×
    All (λ (pair : Pair). IsKeyOf l.spec pair.key) (pairs_left l.pair-iterator) ×
    ((done : List Pair) × (l.tree.pairs ≡ done ++ pairs_left l.pair-iterator) × AllZip (ListsPair l.spec) done l.lines.items)

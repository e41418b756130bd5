-- The pairs whose key another pair has too.
use Rattle.std.specs.Prelude.{Bool, false, ◌&&◌, ◌||◌, List, [], ◌∷◌}
use Rattle.std.specs.List.{filter}
use Rattle.std.specs.FinMap.{keys}
use Rattle.std.specs.FinSet.{FinSet}
use Rattle.keybytes.specs.Pairs.{pair_cmp}
use Rattle.keybytes.specs.declared.pair.Pair.{Pair}
use Rattle.tree_nodes.specs.Order.{is_before}
use Rattle.btree.specs.TreeValue.{is_key}

-- two pairs with one key and different RIDs
abbrev pub clash : Pair → Pair → Bool
clash p q = is_key p.key q && (is_before p q || is_before q p)

-- whether one of the pairs has p's key and another RID
abbrev pub is_shared : Pair → List Pair → Bool
is_shared p [] = false
is_shared p (q ∷ qs) = clash p q || is_shared p qs

-- the pairs whose key another pair has too
unfoldable pub shared_pairs : List Pair → List Pair
shared_pairs pairs = filter (λ p. is_shared p pairs) pairs

-- those of a set, in order
abbrev pub shared_of : FinSet pair_cmp → List Pair
shared_of pairs = shared_pairs (keys pairs)

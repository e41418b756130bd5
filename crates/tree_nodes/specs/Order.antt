-- The order of pairs, as a test: by key, then by RID.
use Rattle.std.specs.Prelude.{Bool, List}
use Rattle.std.specs.Ordering.{is_lt}
use Rattle.keybytes.specs.Pairs.{pair_cmp}
use Rattle.keybytes.specs.declared.pair.Pair.{Pair}
use Rattle.tree_nodes.specs.Lists.{IsRising}

-- the first pair stands before the second
unfoldable pub is_before : Pair → Pair → Bool
is_before p q = is_lt (pair_cmp p q)

-- the pairs rise: each stands before all later ones (a record, which tactics leave whole)
pub record PairsRise (pairs : List Pair) : Type 0 where
  pub rising : IsRising is_before pairs

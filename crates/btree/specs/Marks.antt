-- A node's pairs in order, with the separators among them.
use Rattle.std.specs.Prelude.{Bool, not, List, [], ◌∷◌}
use Rattle.keybytes.specs.declared.pair.Pair.{Pair}
use Rattle.tree_nodes.specs.Order.{is_before}

-- a pair that stands in a leaf, or one between two children
pub data Mark : Type 0 where
  Item : Pair → Mark
  Between : Pair → Mark

-- a separator stands before the pair that it equals
abbrev pub mark_before : Mark → Mark → Bool
mark_before (Item a) (Item b) = is_before a b
mark_before (Item a) (Between b) = is_before a b
mark_before (Between a) (Between b) = is_before a b
mark_before (Between a) (Item b) = not (is_before b a)

-- pairs with no separator
abbrev pub items_of : List Pair → List Mark
items_of [] = []
items_of (pair ∷ pairs) = Item pair ∷ items_of pairs

-- the pairs that stand in leaves
abbrev pub pairs_in : List Mark → List Pair
pairs_in [] = []
pairs_in (Item pair ∷ marks) = pair ∷ pairs_in marks
pairs_in (Between pair ∷ marks) = pairs_in marks

-- a pair in front of the first list's
abbrev pub in_first : Pair → List (List Pair) → List (List Pair)
in_first pair [] = (pair ∷ []) ∷ []
in_first pair (leaf ∷ leaves) = (pair ∷ leaf) ∷ leaves

-- the pairs of each leaf: between each two leaves stands one separator
abbrev pub leaves_in : List Mark → List (List Pair)
leaves_in [] = [] ∷ []
leaves_in (Item pair ∷ marks) = in_first pair (leaves_in marks)
leaves_in (Between pair ∷ marks) = [] ∷ leaves_in marks

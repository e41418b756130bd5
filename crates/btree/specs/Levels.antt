-- The levels of inner nodes that stand under a node, its own the last.
use Rattle.std.specs.Prelude.{ℕ, List, [], ◌∷◌, ◌++◌, length}
use Rattle.std.specs.List.{fold}
use Rattle.btree.specs.Seen.{Seen}
use Rattle.btree.specs.TreeValue.{Level}

-- a level of one node
abbrev pub alone : ℕ → Level
alone children = record { before = []; last = children }

-- what two nodes have at one depth
abbrev pub joined : Level → Level → Level
joined left right = record { before = left.before ++ left.last ∷ right.before; last = right.last }

-- level by level, what two nodes of one height have: neither has more levels
abbrev pub beside : List Level → List Level → List Level
beside [] right = right
beside (l ∷ left) [] = []
beside (l ∷ left) (r ∷ right) = joined l r ∷ beside left right

-- what children of one height have, from left to right
abbrev pub levels_of : List Seen → List Level
levels_of children = fold (λ levels child. beside levels child.levels) [] children

-- those of a node over these children
abbrev pub levels_over : List Seen → List Level
levels_over children = levels_of children ++ alone (length children) ∷ []

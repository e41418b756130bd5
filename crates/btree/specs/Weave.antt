-- Children and the separators between them, as one list.
use Rattle.std.specs.Prelude.{◌≡◌, ℕ, List, [], ◌∷◌, ◌++◌}
use Rattle.keybytes.specs.declared.pair.Pair.{Pair}
use Rattle.btree.specs.Marks.{Mark, Between}
use Rattle.btree.specs.Seen.{Seen}

abbrev pub weave : List Seen → List Pair → List Mark
weave [] separators = []
weave (child ∷ children) [] = child.marks ++ weave children []
weave (child ∷ children) (separator ∷ separators) = child.marks ++ Between separator ∷ weave children separators

-- the height of the first
abbrev pub height_of : List Seen → ℕ
height_of [] = 0
height_of (child ∷ children) = child.height

-- all are of that height
abbrev pub AllAt : ℕ → List Seen → Type 0
AllAt height [] = Unit {0}
AllAt height (child ∷ children) = (child.height ≡ height) × AllAt height children

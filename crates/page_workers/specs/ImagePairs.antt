-- The pairs on copies of pages.
use Rattle.std.specs.Prelude.{◌≡◌, List, [], ◌∷◌, ◌++◌}
use Rattle.keybytes.specs.Keys.{KeySpecValue}
use Rattle.keybytes.specs.declared.pair.Pair.{Pair}
use Rattle.heap_table.specs.Images.{ImageValue}
use Rattle.run_maker.specs.ImagePairs.{HasPairs}

-- these are the pairs of the images' rows, one image after another
abbrev pub HavePairs : KeySpecValue → List ImageValue → List Pair → Type 0
HavePairs spec [] pairs = pairs ≡ []
HavePairs spec (image ∷ images) pairs =
    (first : List Pair) × (rest : List Pair) × HasPairs spec image first × HavePairs spec images rest × (pairs ≡ first ++ rest)

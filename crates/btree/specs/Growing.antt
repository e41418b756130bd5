-- What a leaf that is put behind all others makes of levels.
use Rattle.std.specs.Prelude.{◌≡◌, ◌⊎◌, ◌+◌, ◌<◌, List, [], ◌∷◌, ◌++◌, Option, None, Some, length}
use Rattle.btree.specs.declared.split.Split.{Split}
use Rattle.btree.specs.Seen.{Seen}
use Rattle.btree.specs.TreeValue.{Level}
use Rattle.btree.specs.Levels.{alone, joined, levels_over}

-- the last node of each level has 32 children
abbrev pub AreFull : List Level → Type 0
AreFull [] = Unit {0}
AreFull (level ∷ levels) = (level.last ≡ 32) × AreFull levels

-- as many levels, of one node over one child each
abbrev pub begun : List Level → List Level
begun [] = []
begun (level ∷ levels) = alone 1 ∷ begun levels

-- a last node has one child more, and below it nodes are begun behind full ones
abbrev pub HaveGrown : List Level → List Level → Type 0
HaveGrown [] now = ⊥
HaveGrown (old ∷ olds) [] = ⊥
HaveGrown (old ∷ olds) (new ∷ news) =
    ((old.last < 32) × (new ≡ record old { last = old.last + 1 }) × (news ≡ olds))
    ⊎ ((old.last ≡ 32) × (new ≡ joined old (alone 1)) × HaveGrown olds news)

-- a node's levels grow; where they are full they stay, and as many are begun beside them
abbrev pub LevelsAfter : List Level → List Level → Option Split → Type 0
LevelsAfter old new None = HaveGrown old new
LevelsAfter old new (Some split) = AreFull old × (new ≡ old) × (split.node.levels ≡ begun old)

-- a node that is put behind all children stands among them, or alone under what was split off where they are 32
abbrev pub PutLast : List Seen → Seen → List Seen → Option Split → Type 0
PutLast old node new None = (length old < 32) × (new ≡ old ++ node ∷ [])
PutLast old node new (Some split) = (length old ≡ 32) × (new ≡ old) × (split.node.levels ≡ levels_over (node ∷ []))

-- those of a root, or of one over the root and what was split off it
abbrev pub levels_raised : Seen → Option Split → List Level
levels_raised root None = root.levels
levels_raised root (Some split) = levels_over (root ∷ split.node ∷ [])

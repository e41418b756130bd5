-- A tree by its root, if it has one: an empty tree that never had a pair has none.
use Rattle.std.specs.Prelude.{ℕ, List, [], Option, None, Some}
use Rattle.btree.specs.Marks.{Mark}
use Rattle.btree.specs.Seen.{Seen}
use Rattle.btree.specs.TreeValue.{Level}

abbrev pub marks_under : Option Seen → List Mark
marks_under None = []
marks_under (Some root) = root.marks

abbrev pub height_under : Option Seen → ℕ
height_under None = 0
height_under (Some root) = root.height

abbrev pub levels_under : Option Seen → List Level
levels_under None = []
levels_under (Some root) = root.levels

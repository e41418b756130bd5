-- A node as the one above it sees it.
use Rattle.std.specs.Prelude.{ℕ, List}
use Rattle.btree.specs.Marks.{Mark}
use Rattle.btree.specs.TreeValue.{Level}

pub record Seen : Type 0 where
  pub marks : List Mark
  pub height : ℕ
  pub levels : List Level

-- What a leaf keeps true.
use Rattle.std.specs.Prelude.{ℕ, ◌≤◌, List, length}
use Rattle.keybytes.specs.declared.pair.Pair.{Pair}
use Rattle.tree_nodes.specs.Order.{PairsRise}

pub record IsLeaf (pairs : List Pair) (capacity : ℕ) : Type 0 where
  pub rise : PairsRise pairs
  pub few : length pairs ≤ 32
  pub room : 32 ≤ capacity

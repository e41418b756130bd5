-- What an insert makes of a node's marks.
use Rattle.std.specs.Prelude.{◌≡◌, true, List}
use Rattle.keybytes.specs.declared.pair.Pair.{Pair}
use Rattle.tree_nodes.specs.Lists.{In, IsRising, put}
use Rattle.tree_nodes.specs.Order.{is_before}
use Rattle.btree.specs.Marks.{Mark, Item, mark_before, pairs_in}

-- the pair is put in, and separators may be added; none of it leaves the bounds of what was there and the pair
pub record GrownBy (p : Pair) (old new : List Mark) : Type 0 where
  pub rising : IsRising mark_before new
  pub pairs : pairs_in new ≡ put is_before p (pairs_in old)
  pub above : (m : Mark) → ((x : Mark) → In x old → mark_before m x ≡ true) → mark_before m (Item p) ≡ true → (x : Mark) → In x new → mark_before m x ≡ true
  pub below : (m : Mark) → ((x : Mark) → In x old → mark_before x m ≡ true) → mark_before (Item p) m ≡ true → (x : Mark) → In x new → mark_before x m ≡ true

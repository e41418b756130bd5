-- A tally that grows pair by pair, in order.
use Rattle.std.specs.Prelude.{if◌then◌else◌, List, Option, None, Some}
use Rattle.std.specs.Borrow.{Bor}
use Rattle.keybytes.specs.declared.pair.Pair.{Pair}
use Rattle.tree_nodes.specs.Lists.{put}
use Rattle.tree_nodes.specs.Order.{is_before}
use Rattle.btree.specs.TreeValue.{is_key}

-- the tally once p comes behind the last pair
abbrev pub counted : Option (Bor Pair) → Pair → List Pair → List Pair
counted None p shared = shared
counted (Some last) p shared = if is_key p.key last.now then put is_before p (put is_before last.now shared) else shared

use Rattle.std.proofs.Common.{◌≡◌, length}
use Rattle.chunk_list.specs.Left.{list_items_left}
use Rattle.chunk_list.proofs.list_items.ListItemsIterator.next.Given as goal

abbrev pub invariant-loop-first : goal.invariant-loop-first
invariant-loop-first g l = list_items_left l.self ≡ list_items_left l.fn.self

abbrev pub decreases-loop-first : goal.decreases-loop-first
decreases-loop-first g l = length l.self.chunks.now

use Rattle.std.proofs.Common.{◌≡◌, length}
use Rattle.std.specs.VecDeque.Iter.{deque_iter_rest}
use Rattle.chunk_list.specs.Left.{queue_items_left}
use Rattle.chunk_list.proofs.queue_items.QueueItemsIterator.next.Given as goal

abbrev pub invariant-loop-item : goal.invariant-loop-item
invariant-loop-item g l = queue_items_left l.self ≡ queue_items_left l.fn.self

abbrev pub decreases-loop-item : goal.decreases-loop-item
decreases-loop-item g l = length (deque_iter_rest l.self.full)

use Rattle.std.proofs.Common.{◌≤◌, ◌<◌, ◌-◌, take}
use Rattle.btree.specs.Changes.{AreInOrder}
use Rattle.btree.proofs.change.count_in_order.Given as goal

abbrev pub invariant-loop-count : goal.invariant-loop-count
invariant-loop-count l = record {
  some : 0 < l.count;
  few : l.count ≤ l.most;
  order : AreInOrder (take l.count l.queue.items);
}

abbrev pub decreases-loop-count : goal.decreases-loop-count
decreases-loop-count l = l.most - l.count

use Rattle.std.proofs.Common.{◌≤◌, ◌-◌, take}
use Rattle.btree.specs.Changes.{count_lower}
use Rattle.btree.proofs.change.bisect.Given as goal

abbrev pub invariant-loop-low : goal.invariant-loop-low
invariant-loop-low l = record {
  low : l.low ≤ count_lower l.pair (take l.count l.queue.items);
  high : count_lower l.pair (take l.count l.queue.items) ≤ l.high;
  within : l.high ≤ l.count;
}

abbrev pub decreases-loop-low : goal.decreases-loop-low
decreases-loop-low l = l.high - l.low

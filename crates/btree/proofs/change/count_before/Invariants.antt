use Rattle.std.proofs.Common.{◌≤◌, ◌<◌, ◌-◌, take}
use Rattle.btree.specs.Changes.{count_lower}
use Rattle.btree.proofs.change.count_before.Given as goal

abbrev pub invariant-loop-high : goal.invariant-loop-high
invariant-loop-high l = record {
  low : l.low ≤ count_lower l.pair (take l.count l.queue.items);
  apart : l.low < l.high;
  few : l.high ≤ l.count;
}

abbrev pub decreases-loop-high : goal.decreases-loop-high
decreases-loop-high l = l.count - l.high

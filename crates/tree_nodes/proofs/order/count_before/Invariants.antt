use Rattle.std.proofs.Common.{◌≤◌, ◌-◌, length}
use Rattle.tree_nodes.specs.Order.{is_before}
use Rattle.tree_nodes.specs.Lists.{front_count}
use Rattle.tree_nodes.proofs.order.count_before.Given as goal

abbrev pub invariant-loop-low : goal.invariant-loop-low
invariant-loop-low l = record {
  low : l.low ≤ front_count (λ pair. is_before pair (record { key = l.key; rid = l.rid })) l.pairs;
  high : front_count (λ pair. is_before pair (record { key = l.key; rid = l.rid })) l.pairs ≤ l.high;
  within : l.high ≤ length l.pairs;
}

abbrev pub decreases-loop-low : goal.decreases-loop-low
decreases-loop-low l = l.high - l.low

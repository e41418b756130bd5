use Rattle.std.proofs.Common.{◌≡◌, ◌≤◌, ◌+◌, ◌-◌, length}
use Rattle.btree.specs.Changes.{Made}
use Rattle.btree.proofs.tree.Tree.apply_sorted.Given as goal

abbrev pub invariant-loop-left : goal.invariant-loop-left
invariant-loop-left l = record {
  made : Made l.initial.self.pairs l.self.pairs l.initial.queue.items l.queue.items;
  there : l.left ≤ length l.queue.items;
  rest : length l.queue.items ≡ (length l.initial.queue.items - l.most) + l.left;
}

abbrev pub decreases-loop-left : goal.decreases-loop-left
decreases-loop-left l = l.left

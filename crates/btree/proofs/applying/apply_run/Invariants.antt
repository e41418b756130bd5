use Rattle.std.proofs.Common.{◌≡◌, ◌≤◌, ◌+◌, length, take}
use Rattle.btree.specs.Changes.{AreInOrder, Made}
use Rattle.btree.proofs.applying.apply_run.Given as goal

abbrev pub invariant-loop-left : goal.invariant-loop-left
invariant-loop-left l = record {
  made : Made l.initial.tree.pairs l.tree.pairs l.initial.queue.items l.queue.items;
  rest : length l.queue.items + l.count ≡ length l.initial.queue.items + l.left;
  few : l.left ≤ l.count;
  order : AreInOrder (take l.left l.queue.items);
}

abbrev pub decreases-loop-left : goal.decreases-loop-left
decreases-loop-left l = l.left

use Rattle.std.proofs.Common.{◌-◌}
use Rattle.btree.specs.Changes.{Walked}
use Rattle.btree.specs.Marks.{items_of}
use Rattle.btree.proofs.walking.apply_to_leaf.Given as goal

abbrev pub invariant-loop-steps : goal.invariant-loop-steps
invariant-loop-steps l = Walked l.count (items_of l.initial.leaf) (items_of l.leaf) l.initial.queue.items l.queue.items l.steps

abbrev pub decreases-loop-steps : goal.decreases-loop-steps
decreases-loop-steps l = l.count - l.steps.taken

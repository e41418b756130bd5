use Rattle.std.proofs.Common.{◌≡◌, ◌-◌}
use Rattle.tree_nodes.specs.Fans.{children_of, separators_of}
use Rattle.btree.specs.Changes.{Walked}
use Rattle.btree.specs.Nodes.{IsFanned}
use Rattle.btree.specs.Weave.{weave, height_of}
use Rattle.btree.proofs.node.Node.+apply.Given as goal

abbrev pub decreases-apply : goal.decreases-apply
decreases-apply l = l.self.now.height

abbrev pub invariant-children : goal.invariant-children
invariant-children l = record {
  kept : IsFanned l.fan;
  walked : Walked l.count (weave (children_of l.initial.fan) (separators_of l.initial.fan)) (weave (children_of l.fan) (separators_of l.fan))
      l.initial.queue.items l.queue.items l.steps;
  height : height_of (children_of l.fan) ≡ height_of (children_of l.initial.fan);
}

abbrev pub decreases-children : goal.decreases-children
decreases-children l = l.count - l.steps.taken

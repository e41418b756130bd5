use Rattle.std.proofs.Common.{rules}
use Rattle.tree_nodes.proofs.LeafFacts.{leaf_here}
use Rattle.tree_nodes.proofs.leaf.Leaf.find.Goals as goal
use Rattle.tree_nodes.proofs.leaf.Leaf.find.Goals.{else-place-len-via-then-place-len+else-not-is_after, else-place-len-via-else-place-len}

pub returns-then-not-is_after-clause-there : goal.returns-then-not-is_after-clause-there
returns-then-not-is_after-clause-there c =
    let h = leaf_here (record { key = c.args.key.now; rid = c.args.rid }) c.args.self.now c.count_before-place.result c.pairs.ensures.rise (search rules) in
    h.there c.index.result.now (search rules) (search rules)

pub returns-else-place-len-clause-gap : goal.returns-else-place-len-clause-gap
returns-else-place-len-clause-gap c =
    let h = leaf_here (record { key = c.args.key.now; rid = c.args.rid }) c.args.self.now c.count_before-place.result c.pairs.ensures.rise (search rules) in
    elim c.else-place-len.branch [
      | else-place-len-via-then-place-len+else-not-is_after w ↦ h.gap w.index.result.now (search rules) (search rules)
      | else-place-len-via-else-place-len w ↦ h.last (search rules)
    ]

-- Each child is lower than its node.
use Rattle.tree_nodes.specs.Fans.{children_of}
use Rattle.std.specs.Prelude.{ℕ, suc, ◌+◌, ◌≤◌, max, List, [], ◌∷◌}
use Rattle.std.proofs.Common.{arith}
use denote.Param.Weighed.{most}
use Rattle.btree.specs.Seen.{Seen}
use Rattle.btree.specs.Weave.{height_of, AllAt}
use Rattle.btree.specs.Nodes.{seen_kind, seen, IsKind, IsNode}
use Rattle.btree.specs.declared.node.Kind.{Kind}
use Rattle.btree.specs.declared.node.Kind.TheVariants as kind
use Rattle.btree.specs.declared.node.Node.TheInside.{Inside}
use Rattle.btree.specs.declared.node.Node.TheDeep.{deep-Kind}

most_at : (h : ℕ) (children : List Seen) → AllAt h children → most (λ child. child.height + 1) children ≤ suc h
most_at h [] a = omega arith
most_at h (child ∷ children) a = omega (arith, a.0, most_at h children a.1)

falls_kind : (k : Kind) → IsKind k → deep-Kind k ≤ (seen_kind k).height
falls_kind (kind.Leaf pairs) h = omega arith
falls_kind (kind.Fan fan) h = let m : most (λ child. child.height + 1) (children_of fan) ≤ suc (height_of (children_of fan)) = most_at _ _ h.level in omega
    arith

pub falls : (a : Inside) → IsNode a → max (deep-Kind a.kind) 0 ≤ (seen a).height
falls a h = omega (arith, falls_kind a.kind h)

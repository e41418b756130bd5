use Rattle.std.proofs.Common.{ℕ, arith}
use Rattle.btree.proofs.Middles.{has-middle}
use Rattle.btree.proofs.MarkFacts.{mark_before-strict, has-items_of}
use Rattle.btree.proofs.FanFacts.{at_fan, at_leaf, around_fan, child_height}
use Rattle.btree.proofs.Removed.{Removed, removed_leaf, removed_fan}
use Rattle.btree.proofs.node.Node.+remove.Goals as goal
use Rattle.btree.proofs.node.Node.+remove.Goals.{Joined-self, in-Leaf, in-Fan}

pub find-place-requires : goal.find-place-requires
find-place-requires t c = (at_fan c.self.view_is c.self.invariant c.in-Fan.is).ordered

pub child_mut-requires : goal.child_mut-requires
child_mut-requires t c =
    let f = at_fan c.self.view_is c.self.invariant c.in-Fan.is in
    let a = around_fan f _ _ c.find-place.ensures in
    omega (arith, a.within)

pub remove-requires-in-Fan : goal.remove-requires-in-Fan
remove-requires-in-Fan t c =
    let f = at_fan c.self.view_is c.self.invariant c.in-Fan.is in
    let a = around_fan f _ _ c.find-place.ensures in
    (omega (arith, child_height f a _ c.child_mut.ensures.child, f.height, c.decreases), tt)

-- what is left of a leaf, and of a fan
left : (t : ℕ) (c : Joined-self t) → Removed (record { key = c.args.key.now; rid = c.args.rid }) c.args.self.now c.match-self.self-inside.kind
left t c = elim c.match-self.branch [
  | in-Leaf w ↦ rw w.self-inside-is (removed_leaf (at_leaf c.self.view_is c.self.invariant w.in-Leaf.is) _ _ w.remove.ensures.removed)
  | in-Fan w ↦
      let f = at_fan c.self.view_is c.self.invariant w.in-Fan.is in
      let a = around_fan f _ _ w.find-place.ensures in
      rw w.self-inside-is (removed_fan f a _ _ w.child_mut.ensures.child w.remove-in-Fan.ensures.removed w.remove-in-Fan.ensures.height)
]

pub invariant_of-self : goal.invariant_of-self
invariant_of-self t c = (left t c).kept

pub returns-clause-found : goal.returns-clause-found
returns-clause-found t c = elim c.match-self.branch [
  | in-Leaf w ↦
      let f = at_leaf c.self.view_is c.self.invariant w.in-Leaf.is in
      cc (w.result-is, w.remove.ensures.found, f.marks, has-items_of (record { key = c.args.key.now; rid = c.args.rid }) w.in-Leaf.leaf)
  | in-Fan w ↦
      let f = at_fan c.self.view_is c.self.invariant w.in-Fan.is in
      let a = around_fan f _ _ w.find-place.ensures in
      cc (
        w.result-is,
        w.remove-in-Fan.ensures.found,
        a.is w.child_mut.result.now,
        w.child_mut.ensures.child,
        f.marks,
        has-middle mark_before-strict _ a.l
            w.child_mut.result.now.marks a.r a.below a.above,
      )
]

pub returns-clause-removed : goal.returns-clause-removed
returns-clause-removed t c = (left t c).marks

pub returns-clause-height : goal.returns-clause-height
returns-clause-height t c = (left t c).height

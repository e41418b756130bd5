use Rattle.std.proofs.Common.{arith}
use Rattle.btree.proofs.Middles.{has-middle}
use Rattle.btree.proofs.MarkFacts.{mark_before-strict, has-items_of}
use Rattle.btree.proofs.FanFacts.{at_fan, at_leaf, around_fan, child_height}
use Rattle.btree.proofs.node.Node.+contains.Goals as goal

pub find-place-requires : goal.find-place-requires
find-place-requires t c = (at_fan c.self.view_is c.self.invariant c.in-Fan.is).ordered

pub child-requires : goal.child-requires
child-requires t c =
    let f = at_fan c.self.view_is c.self.invariant c.in-Fan.is in
    let a = around_fan f _ _ c.find-place.ensures in
    omega (arith, a.within)

pub contains-requires-in-Fan : goal.contains-requires-in-Fan
contains-requires-in-Fan t c =
    let f = at_fan c.self.view_is c.self.invariant c.in-Fan.is in
    let a = around_fan f _ _ c.find-place.ensures in
    (omega (arith, child_height f a _ c.child.ensures, f.height, c.decreases), tt)

pub returns-in-Leaf : goal.returns-in-Leaf
returns-in-Leaf t c =
    let f = at_leaf c.self.view_is c.self.invariant c.in-Leaf.is in
    cc (f.marks, has-items_of (record { key = c.args.key.now; rid = c.args.rid }) c.in-Leaf.leaf)

pub returns-in-Fan : goal.returns-in-Fan
returns-in-Fan t c =
    let f = at_fan c.self.view_is c.self.invariant c.in-Fan.is in
    let a = around_fan f _ _ c.find-place.ensures in
    cc (a.is c.child.result.now, f.marks, has-middle mark_before-strict _ a.l c.child.result.now.marks a.r a.below a.above)

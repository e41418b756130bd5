use Rattle.tree_nodes.specs.Fans.{separators_of}
use Rattle.std.proofs.Common.{◌≡◌, ◌<◌, ◌≤◌, [], ◌∷◌, get_or, Some, None, length, ap, sym, ◌∙◌, arith}
use Rattle.keybytes.specs.declared.pair.Pair.{Pair}
use Rattle.btree.specs.Marks.{Between}
use Rattle.btree.proofs.FanFacts.{at_fan, at_leaf, around_fan, child_height}
use Rattle.btree.proofs.Leaving.{leaf_of_leaf, leaf_of_child, leaf_at_end, told}
use Rattle.btree.proofs.node.Node.+leaf_from.Goals as goal

pub find-place-requires : goal.find-place-requires
find-place-requires t c = (at_fan c.self.view_is c.self.invariant c.in-Fan.is).ordered

pub child-requires : goal.child-requires
child-requires t c =
    let f = at_fan c.self.view_is c.self.invariant c.in-Fan.is in
    let a = around_fan f _ _ c.find-place.ensures in
    omega (arith, a.within)

pub leaf_from-requires : goal.leaf_from-requires
leaf_from-requires t c =
    let f = at_fan c.self.view_is c.self.invariant c.in-Fan.is in
    let a = around_fan f _ _ c.find-place.ensures in
    (omega (arith, child_height f a _ c.child.ensures, f.height, c.decreases), tt)

pub returns-in-Leaf : goal.returns-in-Leaf
returns-in-Leaf t c = leaf_of_leaf (at_leaf c.self.view_is c.self.invariant c.in-Leaf.is) c.from.ensures.rise _ _ c.from.ensures.pairs

pub returns-in-Some : goal.returns-in-Some
returns-in-Some t c =
    let f = at_fan c.self.view_is c.self.invariant c.in-Fan.is in
    let a = around_fan f _ _ c.find-place.ensures in
    leaf_of_child f a c.child.result.now c.child.ensures _ _ (told c.leaf_from.ensures c.in-Some.is)

pub separator-requires : goal.separator-requires
separator-requires t c =
    let f = at_fan c.self.view_is c.self.invariant c.in-Fan.is in
    omega (arith, f.sound.between)

pub overflow_add-place : goal.overflow_add-place
overflow_add-place t c =
    let f = at_fan c.self.view_is c.self.invariant c.in-Fan.is in
    let a = around_fan f _ _ c.find-place.ensures in
    omega (arith, a.within, f.sound.few)

pub returns-then-place-len : goal.returns-then-place-len
returns-then-place-len t c =
    let f = at_fan c.self.view_is c.self.invariant c.in-Fan.is in
    let a = around_fan f _ _ c.find-place.ensures in
    let next = c.separator.result in
    let within : c.find-place.result < length (separators_of c.in-Fan.fan) = omega (arith, f.sound.between) in
    let m = a.more next.now within in
    let e : Between (get_or (separators_of c.in-Fan.fan) c.find-place.result next.now) ∷ m.0
    ≡ Between next.now ∷ m.0 = ap (λ (q : Pair). Between q ∷ m.0) (sym c.separator.ensures) in
    leaf_at_end f a c.child.result.now c.child.ensures _ (Some next) m.0 (told c.leaf_from.ensures c.in_default.is) (m.1 ∙ e)

pub returns-else-place-len : goal.returns-else-place-len
returns-else-place-len t c =
    let f = at_fan c.self.view_is c.self.invariant c.in-Fan.is in
    let a = around_fan f _ _ c.find-place.ensures in
    let past : length (separators_of c.in-Fan.fan) ≤ c.find-place.result = omega (arith, f.sound.between) in
    leaf_at_end f a c.child.result.now c.child.ensures _ None [] (told c.leaf_from.ensures c.in_default.is) (a.last past)

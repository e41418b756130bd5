use Rattle.std.proofs.Common.{not, ap, ◌∙◌, arith}
use Rattle.std.proofs.Math.ListN.{length-set}
use Rattle.btree.proofs.FanFacts.{at_fan, at_leaf, around_fan, child_height}
use Rattle.btree.proofs.FanInserted.{below_at, stays, takes_in, takes_split, height_is, held, leaf_inserted, leaf_held, used_within, used_both}
use Rattle.btree.proofs.node.Node.+insert.Goals as goal
use Rattle.btree.proofs.node.Node.+insert.Goals.{in-Leaf, in-Fan+in-None, in-Fan+in-Some}

pub find-place-requires : goal.find-place-requires
find-place-requires t c = (at_fan c.self.view_is c.self.invariant c.in-Fan.is).ordered

pub child_mut-requires : goal.child_mut-requires
child_mut-requires t c =
    let f = at_fan c.self.view_is c.self.invariant c.in-Fan.is in
    let a = around_fan f c.args.pair _ c.find-place.ensures in
    omega (arith, a.within)

pub insert-added-requires : goal.insert-added-requires
insert-added-requires t c =
    let f = at_fan c.self.view_is c.self.invariant c.in-Fan.is in
    let a = around_fan f c.args.pair _ c.find-place.ensures in
    let h = child_height f a _ c.child_mut.ensures.child in (
      omega (arith, h, f.height, c.decreases),
      record { leaf = c.requires.leaf; key = c.requires.key; blank = c.requires.blank; enough = omega (arith, h, f.height, c.requires.enough) },
    )

pub insert_into_fan-requires-clause-within : goal.insert_into_fan-requires-clause-within
insert_into_fan-requires-clause-within t c =
    let f = at_fan c.self.view_is c.self.invariant c.in-Fan.is in
    let a = around_fan f c.args.pair _ c.find-place.ensures in
    rw length-set a.within

pub insert_into_fan-requires-clause-rising : goal.insert_into_fan-requires-clause-rising
insert_into_fan-requires-clause-rising t c =
    let f = at_fan c.self.view_is c.self.invariant c.in-Fan.is in
    let b = below_at f (around_fan f c.args.pair _ c.find-place.ensures) c.child_mut.ensures.child c.insert-added.ensures.inserted c.in-Some.is in
    (takes_in b).rising

pub insert_into_fan-requires-clause-level : goal.insert_into_fan-requires-clause-level
insert_into_fan-requires-clause-level t c =
    let f = at_fan c.self.view_is c.self.invariant c.in-Fan.is in
    let b = below_at f (around_fan f c.args.pair _ c.find-place.ensures) c.child_mut.ensures.child c.insert-added.ensures.inserted c.in-Some.is in
    (takes_in b).level

pub insert_into_fan-requires-clause-enough : goal.insert_into_fan-requires-clause-enough
insert_into_fan-requires-clause-enough t c =
    let f = at_fan c.self.view_is c.self.invariant c.in-Fan.is in
    let b = below_at f (around_fan f c.args.pair _ c.find-place.ensures) c.child_mut.ensures.child c.insert-added.ensures.inserted c.in-Some.is in
    omega (arith, height_is b, f.height, c.requires.enough, c.insert-added.ensures.used.used)

pub invariant_of-self : goal.invariant_of-self
invariant_of-self t c = elim c.match-self.branch [
  | in-Leaf w ↦
      let f = at_leaf c.self.view_is c.self.invariant w.in-Leaf.is in
      rw w.self-inside-is w.insert_into_leaf.ensures.rising
  | in-Fan+in-None w ↦
      let f = at_fan c.self.view_is c.self.invariant w.in-Fan.is in
      let b = below_at f (around_fan f c.args.pair _ w.find-place.ensures) w.child_mut.ensures.child w.insert-added.ensures.inserted w.in-None.is in
      rw w.self-inside-is (stays b).kept
  | in-Fan+in-Some w ↦ rw w.self-inside-is w.insert_into_fan.ensures.fanned
]

pub returns-clause-inserted : goal.returns-clause-inserted
returns-clause-inserted t c = elim c.match-self.branch [
  | in-Leaf w ↦
      let f = at_leaf c.self.view_is c.self.invariant w.in-Leaf.is in
      rw (w.self-inside-is, w.result-is) (leaf_inserted f c.args.pair _ _ w.insert_into_leaf.ensures.grown w.insert_into_leaf.ensures.beside)
  | in-Fan+in-None w ↦
      let f = at_fan c.self.view_is c.self.invariant w.in-Fan.is in
      let b = below_at f (around_fan f c.args.pair _ w.find-place.ensures) w.child_mut.ensures.child w.insert-added.ensures.inserted w.in-None.is in
      rw (w.self-inside-is, w.result-is) (stays b).inserted
  | in-Fan+in-Some w ↦
      let f = at_fan c.self.view_is c.self.invariant w.in-Fan.is in
      let b = below_at f (around_fan f c.args.pair _ w.find-place.ensures) w.child_mut.ensures.child w.insert-added.ensures.inserted w.in-Some.is in
      rw (w.self-inside-is, w.result-is) (takes_split b w.insert_into_fan.new.fan _ w.insert_into_fan.ensures.marks w.insert_into_fan.ensures.height
      w.insert_into_fan.ensures.beside)
]

pub returns-clause-added : goal.returns-clause-added
returns-clause-added t c = elim c.match-self.branch [
  | in-Leaf w ↦
      let f = at_leaf c.self.view_is c.self.invariant w.in-Leaf.is in
      rw w.result-is (w.insert_into_leaf.ensures.added ∙ ap not (leaf_held f c.args.pair))
  | in-Fan+in-None w ↦
      let f = at_fan c.self.view_is c.self.invariant w.in-Fan.is in
      let b = below_at f (around_fan f c.args.pair _ w.find-place.ensures) w.child_mut.ensures.child w.insert-added.ensures.inserted w.in-None.is in
      rw w.result-is (w.insert-added.ensures.added ∙ ap not (held b))
  | in-Fan+in-Some w ↦
      let f = at_fan c.self.view_is c.self.invariant w.in-Fan.is in
      let b = below_at f (around_fan f c.args.pair _ w.find-place.ensures) w.child_mut.ensures.child w.insert-added.ensures.inserted w.in-Some.is in
      rw w.result-is (w.insert-added.ensures.added ∙ ap not (held b))
]

pub returns-clause-used : goal.returns-clause-used
returns-clause-used t c = elim c.match-self.branch [
  | in-Leaf w ↦ rw w.spare-is (used_within _ _ 0 _ w.insert_into_leaf.ensures.used (omega arith))
  | in-Fan+in-None w ↦
      let f = at_fan c.self.view_is c.self.invariant w.in-Fan.is in
      let b = below_at f (around_fan f c.args.pair _ w.find-place.ensures) w.child_mut.ensures.child w.insert-added.ensures.inserted w.in-None.is in
      rw w.spare-is (used_within _ _ _ _ w.insert-added.ensures.used (omega (arith, height_is b, f.height)))
  | in-Fan+in-Some w ↦
      let f = at_fan c.self.view_is c.self.invariant w.in-Fan.is in
      let b = below_at f (around_fan f c.args.pair _ w.find-place.ensures) w.child_mut.ensures.child w.insert-added.ensures.inserted w.in-Some.is in
      rw w.spare-is (used_both _ _ _ _ 1 _ w.insert-added.ensures.used w.insert_into_fan.ensures.used (omega (arith, height_is b, f.height)))
]

use Rattle.std.proofs.Common.{◌≡◌, ◌+◌, ◌-◌, length, arith, ap, ◌∙◌}
use Rattle.tree_nodes.specs.Fans.{children_of}
use Rattle.btree.proofs.Appending.{at_end, child_rises, last_at, ends, takes_last, ends_split, leaf_ends}
use Rattle.btree.proofs.FanFacts.{at_fan, at_leaf, child_height}
use Rattle.btree.proofs.LevelsAppended.{at_last, levels_end_with, levels_end_split}
use Rattle.btree.specs.Seen.{Seen}
use Rattle.btree.proofs.node.Node.+append.Goals as goal
use Rattle.btree.proofs.node.Node.+append.Goals.{in-Leaf, in-Fan+in-None, in-Fan+in-Some}

pub append-requires : goal.append-requires
append-requires t c =
    let f = at_fan c.self.view_is c.self.invariant c.in-Fan.is in
    let e = at_end f c.requires.rising (omega (arith, c.len-last.ensures, f.sound.some)) in
    let h = child_height e.at e.around c.child_mut.result.now c.child_mut.ensures.child in
    let rising = child_rises e c.child_mut.result.now c.child_mut.ensures.child in
    (omega (arith, h, f.height, c.decreases), (rising, (c.requires.blank, (omega (arith, h, f.height, c.requires.enough), c.requires.leaf))))

pub insert_into_fan-requires-clause-rising : goal.insert_into_fan-requires-clause-rising
insert_into_fan-requires-clause-rising t c =
    let f = at_fan c.self.view_is c.self.invariant c.in-Fan.is in
    let e = at_end f c.requires.rising (omega (arith, c.len-last.ensures, f.sound.some)) in
    (takes_last (last_at e c.child_mut.ensures.child c.append.ensures.appended c.in-Some.is)).rising

pub insert_into_fan-requires-clause-level : goal.insert_into_fan-requires-clause-level
insert_into_fan-requires-clause-level t c =
    let f = at_fan c.self.view_is c.self.invariant c.in-Fan.is in
    let e = at_end f c.requires.rising (omega (arith, c.len-last.ensures, f.sound.some)) in
    (takes_last (last_at e c.child_mut.ensures.child c.append.ensures.appended c.in-Some.is)).level

pub invariant_of-self : goal.invariant_of-self
invariant_of-self t c = elim c.match-self.branch [
  | in-Leaf w ↦ rw w.self-inside-is c.self.invariant
  | in-Fan+in-None w ↦
      let f = at_fan c.self.view_is c.self.invariant w.in-Fan.is in
      let e = at_end f c.requires.rising (omega (arith, w.len-last.ensures, f.sound.some)) in
      rw w.self-inside-is (ends (last_at e w.child_mut.ensures.child w.append.ensures.appended w.in-None.is)).kept
  | in-Fan+in-Some w ↦ rw w.self-inside-is w.insert_into_fan.ensures.fanned
]

pub returns-clause-appended : goal.returns-clause-appended
returns-clause-appended t c = elim c.match-self.branch [
  | in-Leaf w ↦
      let f = at_leaf c.self.view_is c.self.invariant w.in-Leaf.is in
      rw (w.self-inside-is, w.result-is) (leaf_ends c.args.self.now _ w.leaf.result c.args.separator _ c.self.view_is f.height w.leaf.ensures.marks
      w.leaf.ensures.height)
  | in-Fan+in-None w ↦
      let f = at_fan c.self.view_is c.self.invariant w.in-Fan.is in
      let e = at_end f c.requires.rising (omega (arith, w.len-last.ensures, f.sound.some)) in
      rw (w.self-inside-is, w.result-is) (ends (last_at e w.child_mut.ensures.child w.append.ensures.appended w.in-None.is)).appended
  | in-Fan+in-Some w ↦
      let f = at_fan c.self.view_is c.self.invariant w.in-Fan.is in
      let e = at_end f c.requires.rising (omega (arith, w.len-last.ensures, f.sound.some)) in
      rw (w.self-inside-is, w.result-is) (ends_split (last_at e w.child_mut.ensures.child w.append.ensures.appended w.in-Some.is)
      w.insert_into_fan.new.fan _ w.insert_into_fan.ensures.marks w.insert_into_fan.ensures.height w.insert_into_fan.ensures.beside)
]

pub returns-clause-levels : goal.returns-clause-levels
returns-clause-levels t c = elim c.match-self.branch [
  | in-Leaf w ↦
      let f = at_leaf c.self.view_is c.self.invariant w.in-Leaf.is in
      rw (w.self-inside-is, w.result-is, f.levels) (tt, ap (λ (s : Seen). s.levels) c.self.view_is ∙ f.levels, w.leaf.ensures.levels)
  | in-Fan+in-None w ↦
      let f = at_fan c.self.view_is c.self.invariant w.in-Fan.is in
      let e : w.len-last.result - 1 + 1 ≡ length (children_of w.in-Fan.fan) = omega (arith, w.len-last.ensures, f.sound.some) in
      rw (w.self-inside-is, w.result-is) (levels_end_with f (at_last e w.child_mut.ensures.child) w.append.ensures.levels w.in-None.is)
  | in-Fan+in-Some w ↦
      let f = at_fan c.self.view_is c.self.invariant w.in-Fan.is in
      let e : w.len-last.result - 1 + 1 ≡ length (children_of w.in-Fan.fan) = omega (arith, w.len-last.ensures, f.sound.some) in
      rw (w.self-inside-is, w.result-is) (levels_end_split f (at_last e w.child_mut.ensures.child) w.append.ensures.levels w.in-Some.is w.insert_into_fan.new.fan _ w.insert_into_fan.ensures.last)
]

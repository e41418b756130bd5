use Rattle.std.proofs.Common.{length, length-drop, ap, sym, ◌∙◌, arith}
use Rattle.std.proofs.lemmas.List.{length-take}
use Rattle.btree.specs.Marks.{items_of}
use Rattle.btree.proofs.LeafGrown.{Halved, split_lower, split_upper, rising_left, grown_end}
use Rattle.btree.proofs.growing.split_leaf.Goals as goal
use Rattle.btree.proofs.growing.split_leaf.Goals.{then-is_after, else-is_after}

pub returns-clause-grown : goal.returns-clause-grown
returns-clause-grown c =
    let h : Halved c.args.leaf.now c.split.new.self c.split.new.into c.index-pairs-0.result = record {
      ordered = c.requires.rise;
      full = c.requires.full;
      kept = c.split.ensures.kept;
      moved = c.split.ensures.moved;
      at_front = cc (c.index-pairs-0.is, c.pairs-2.ensures.pairs);
    } in
    elim c.if-is_after.branch [
      | then-is_after w ↦ split_lower h c.args.pair c.copy.result c.copy.ensures.copy (sym c.is_after.ensures ∙ w.if-is_after.true) _ _
          (w.leaf-is ∙ w.insert.ensures) (c.leaf.ensures.marks ∙ ap items_of w.right-is)
      | else-is_after w ↦ rw w.leaf-is (split_upper h c.args.pair c.copy.result c.copy.ensures.copy (sym c.is_after.ensures ∙ w.if-is_after.false) _ _
          (w.right-is ∙ w.insert-else-is_after.ensures) c.leaf.ensures.marks)
    ]

pub returns-clause-rising : goal.returns-clause-rising
returns-clause-rising c = rising_left _ _ _ _ _ (returns-clause-grown c)

pub returns-then-is_before-clause-grown : goal.returns-then-is_before-clause-grown
returns-then-is_before-clause-grown c =
    grown_end c.args.pair c.index-pairs.result _ _ _ c.requires.rise c.requires.full (cc (c.index-pairs.is, c.pairs.ensures.pairs))
    (sym c.is_before.ensures ∙ c.if-is_before.true) c.start_leaf.ensures.separator c.start_leaf.ensures.marks

pub returns-then-is_before-clause-rising : goal.returns-then-is_before-clause-rising
returns-then-is_before-clause-rising c = rising_left _ _ _ _ _ (returns-then-is_before-clause-grown c)

pub insert-requires : goal.insert-requires
insert-requires c = omega (arith, ap length c.split.ensures.kept, length-take 16 c.args.leaf.now, c.requires.full)

pub insert-requires-else-is_after : goal.insert-requires-else-is_after
insert-requires-else-is_after c = omega (arith, ap length c.split.ensures.moved, length-drop 16 c.args.leaf.now, c.requires.full)

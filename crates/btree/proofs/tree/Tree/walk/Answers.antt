use Rattle.std.proofs.Common.{List, sym, ap, ◌∙◌, subst, arith}
use Rattle.std.proofs.lemmas.Bool.{false≢true}
use Rattle.keybytes.specs.Pairs.{set_of}
use Rattle.tree_nodes.specs.Lists.{IsRising}
use Rattle.btree.specs.Changes.{changed}
use Rattle.btree.specs.Marks.{Mark, mark_before, pairs_in}
use Rattle.btree.specs.TreeValue.{TreeValue}
use Rattle.btree.proofs.Changing.{rising_changed, set_changed}
use Rattle.btree.proofs.Ordered.{order_take}
use Rattle.btree.proofs.tree.Tree.walk.Goals as goal

pub apply_under-steps-requires-clause-order : goal.apply_under-steps-requires-clause-order
apply_under-steps-requires-clause-order c = order_take _ _ _ (omega (arith, c.min-most.ensures)) c.requires.order

pub invariant_of-self : goal.invariant_of-self
invariant_of-self c =
    let w = c.apply_under-steps.ensures.walked in
    let R : List Mark → Type 0 = λ ms. IsRising mark_before ms in
    record {
      rising = subst R (sym w.marks) (rising_changed w.made _ c.self.invariant.rising);
      height_is = c.self.invariant.height_is ∙ sym c.apply_under-steps.ensures.height;
      count_is = omega (arith, w.counted, c.self.invariant.count_is);
      tidy = c.self.invariant.tidy;
      stocked = λ e. absurd (false≢true e);
      more = λ e. absurd (false≢true e);
    }

pub returns-clause-made : goal.returns-clause-made
returns-clause-made c =
    let w = c.apply_under-steps.ensures.walked in
    record {
      made = w.made;
      queue_is = w.queue_is;
      pairs = ap (λ (ms : List Mark). set_of (pairs_in ms)) w.marks ∙ set_changed w.made _ c.self.invariant.rising
          ∙ ap (λ (v : TreeValue). changed w.made (set_of v.pairs)) c.self.view_is;
    }

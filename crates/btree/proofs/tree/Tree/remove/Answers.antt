use Rattle.std.proofs.Common.{List, sym, ap, ◌∙◌, subst, arith, refl}
use Rattle.keybytes.specs.Pairs.{set_of, without_pair}
use Rattle.keybytes.specs.declared.pair.Pair.{Pair}
use Rattle.std.specs.Prelude.{Some}
use Rattle.tree_nodes.specs.Lists.{IsRising, has}
use Rattle.tree_nodes.specs.Order.{is_before}
use Rattle.tree_nodes.proofs.Rising.{rising_without}
use Rattle.btree.specs.Marks.{Mark, Item, mark_before, pairs_in}
use Rattle.btree.specs.TreeValue.{TreeValue}
use Rattle.btree.proofs.TreeFacts.{held_pairs, removed_pairs, rising_pairs, at_root, removed_count}
use Rattle.btree.proofs.Sets.{has_is, without_is}
use Rattle.btree.proofs.tree.Tree.remove.Goals as goal

pub overflow_sub-self : goal.overflow_sub-self
overflow_sub-self c =
    let a = at_root c.self.invariant refl in
    omega (
      arith,
      removed_count a (record { key = c.args.key.now; rid = c.args.rid }) _ _ _ c.remove_under-found.ensures.removed
          c.remove_under-found.ensures.found c.one_if.ensures,
    )

pub invariant_of-self : goal.invariant_of-self
invariant_of-self c =
    let p : Pair = record { key = c.args.key.now; rid = c.args.rid } in
    let a = at_root c.self.invariant refl in
    let n = removed_count a p _ _ _ c.remove_under-found.ensures.removed c.remove_under-found.ensures.found c.one_if.ensures in
    let R : List Mark → Type 0 = λ ms. IsRising mark_before ms in
    record {
      rising = subst R (sym c.remove_under-found.ensures.removed) (rising_without mark_before (Item p) _ a.rising);
      height_is = a.height_is ∙ sym c.remove_under-found.ensures.height;
      count_is = omega (arith, n);
      tidy = c.self.invariant.tidy;
      stocked = c.self.invariant.stocked;
      more = λ e. omega (arith, c.self.invariant.more e, n);
    }

pub returns-clause-found : goal.returns-clause-found
returns-clause-found c =
    let p : Pair = record { key = c.args.key.now; rid = c.args.rid } in
    c.remove_under-found.ensures.found ∙ held_pairs p _ ∙ ap (λ (v : TreeValue). has is_before p v.pairs) c.self.view_is ∙ has_is p c.args.self.now.pairs

pub returns-clause-removed : goal.returns-clause-removed
returns-clause-removed c =
    let p : Pair = record { key = c.args.key.now; rid = c.args.rid } in
    ap (λ (ms : List Mark). set_of (pairs_in ms)) c.remove_under-found.ensures.removed ∙ ap set_of (removed_pairs p _)
    ∙ without_is p _ (rising_pairs _ c.self.invariant.rising) ∙ ap (λ (v : TreeValue). without_pair (Some p) (set_of v.pairs)) c.self.view_is

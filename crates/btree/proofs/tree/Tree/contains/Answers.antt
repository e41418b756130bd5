use Rattle.std.proofs.Common.{sym, ap, ◌∙◌}
use Rattle.keybytes.specs.declared.pair.Pair.{Pair}
use Rattle.tree_nodes.specs.Lists.{has}
use Rattle.tree_nodes.specs.Order.{is_before}
use Rattle.btree.specs.TreeValue.{TreeValue}
use Rattle.btree.proofs.TreeFacts.{held_pairs, at_root}
use Rattle.btree.proofs.Sets.{has_is}
use Rattle.btree.proofs.tree.Tree.contains.Goals as goal

pub returns-in-Some : goal.returns-in-Some
returns-in-Some c =
    let p : Pair = record { key = c.args.key.now; rid = c.args.rid } in
    let a = at_root c.self.invariant c.in-Some.is in
    c.contains.ensures ∙ held_pairs p c.in-Some.root.marks ∙ ap (has is_before p) (sym a.pairs_are ∙ ap (λ (v : TreeValue). v.pairs) c.self.view_is)
    ∙ has_is p c.args.self.now.pairs

pub returns-in-None : goal.returns-in-None
returns-in-None c =
    let p : Pair = record { key = c.args.key.now; rid = c.args.rid } in
    let a = at_root c.self.invariant c.in-None.is in
    ap (has is_before p) (sym a.pairs_are ∙ ap (λ (v : TreeValue). v.pairs) c.self.view_is) ∙ has_is p c.args.self.now.pairs

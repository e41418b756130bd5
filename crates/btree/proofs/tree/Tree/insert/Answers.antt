use Rattle.std.proofs.Common.{◌+◌, sym, ap, ◌∙◌}
use Rattle.std.specs.Prelude.{Some}
use Rattle.std.proofs.lemmas.Bool.{false≢true}
use Rattle.keybytes.specs.Pairs.{set_of, with_pair}
use Rattle.keybytes.specs.declared.pair.Pair.{Pair}
use Rattle.btree.specs.TreeValue.{TreeValue}
use Rattle.btree.proofs.TreeFacts.{at_root, added_count, deeper_height}
use Rattle.btree.proofs.Sets.{put_is}
use Rattle.btree.proofs.tree.Tree.insert.Goals as goal

pub invariant_of-self : goal.invariant_of-self
invariant_of-self c =
    let a = at_root c.self.invariant (sym c.take.ensures.value) in
    let under = c.insert_under-raised.ensures in
    record {
      rising = under.grown.rising;
      height_is = ap (λ n. n + c.one_if.result) a.height_is ∙ deeper_height _ _ _ _ under.height.is c.one_if.ensures;
      count_is = added_count a _ _ _ _ under.grown under.added c.one_if-2.ensures;
      tidy = record { leaf = under.used.leaf; blank = under.used.blank };
      stocked = λ e. absurd (false≢true e);
      more = λ e. absurd (false≢true e);
    }

pub returns : goal.returns
returns c =
    let p : Pair = record { key = c.args.key; rid = c.args.rid } in
    let a = at_root c.self.invariant (sym c.take.ensures.value) in
    ap set_of c.insert_under-raised.ensures.grown.pairs ∙ put_is p _
    ∙ ap (λ ps. with_pair (Some p) (set_of ps)) (sym a.pairs_are ∙ ap (λ (v : TreeValue). v.pairs) c.self.view_is)

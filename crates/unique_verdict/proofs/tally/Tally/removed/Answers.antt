use Rattle.std.proofs.Common.{◌≡◌, List, refl, sym, ap, ◌∙◌, subst}
use Rattle.std.proofs.lemmas.Bool.{both_ways}
use Rattle.keybytes.specs.declared.pair.Pair.{Pair}
use Rattle.tree_nodes.specs.Lists.{In, without}
use Rattle.tree_nodes.specs.Order.{is_before}
use Rattle.tree_nodes.proofs.Strict.{before-strict}
use Rattle.btree.proofs.Sets.{rises_of}
use Rattle.btree.specs.TreeValue.{rids_of}
use Rattle.unique_verdict.specs.Holders.{holders}
use Rattle.unique_verdict.specs.Shared.{shared_pairs}
use Rattle.unique_verdict.proofs.Members.{in_has, has_in}
use Rattle.unique_verdict.proofs.HolderFacts.{two_have, more_have}
use Rattle.unique_verdict.proofs.SharedFacts.{shared_rises}
use Rattle.unique_verdict.proofs.SharedChanges.{without_unshared, without_more, without_two}
use Rattle.unique_verdict.proofs.TreeSets.{shared_now, shared_without}
use Rattle.unique_verdict.proofs.tally.Tally.removed.Goals as goal

pub returns-then-not-has_pair-clause-shared : goal.returns-then-not-has_pair-clause-shared
returns-then-not-has_pair-clause-shared c =
    let p : Pair = record { key = c.args.key.now; rid = c.args.rid } in
    let pairs = c.args.tree.now.pairs in
    let now = c.self.inside.shared.pairs in
    let is : c.args.self.now ≡ shared_pairs pairs = c.requires ∙ shared_now pairs c.laws.ensures in
    let I : List Pair → Type 0 = λ ps. In p ps in
    let absent = λ (i : In p now). both_ways _ c.if-not-has_pair.true (c.has_pair.ensures ∙ in_has before-strict p now i) in
    is ∙ sym (without_unshared p pairs (rises_of _ c.laws.ensures) (λ i. absent (subst I (sym (c.self.view_is ∙ is)) i)))
    ∙ sym (shared_without p pairs c.laws.ensures)

pub returns-in-Two-clause-shared : goal.returns-in-Two-clause-shared
returns-in-Two-clause-shared c =
    let key = c.args.key.now in
    let p : Pair = record { key = key; rid = c.args.rid } in
    let first : Pair = record { key = key; rid = c.in-Two.first } in
    let second : Pair = record { key = key; rid = c.in-Two.second } in
    let pairs = c.args.tree.now.pairs in
    let rise = rises_of _ c.laws.ensures in
    let is : c.self.inside.shared.pairs ≡ shared_pairs pairs = c.self.view_is ∙ c.requires ∙ shared_now pairs c.laws.ensures in
    let I : List Pair → Type 0 = λ ps. In p ps in
    let here : In p (shared_pairs pairs) = subst I is (has_in before-strict p _ (sym c.has_pair.ensures ∙ c.if-not-has_pair.false)) in
    let found = sym (ap (λ (ps : List Pair). holders (rids_of key ps)) is) ∙ sym c.in_ok-first.ensures.holders ∙ c.in-Two.is in
    c.take_out-in-Two.ensures
    ∙ ap (without is_before second) (c.take_out.ensures ∙ ap (without is_before first) is)
    ∙ sym (without_two p first second pairs rise here refl refl (two_have key _ c.in-Two.first c.in-Two.second (shared_rises pairs rise) found))
    ∙ sym (shared_without p pairs c.laws.ensures)

pub returns-in_default : goal.returns-in_default
returns-in_default c =
    let key = c.args.key.now in
    let p : Pair = record { key = key; rid = c.args.rid } in
    let pairs = c.args.tree.now.pairs in
    let rise = rises_of _ c.laws.ensures in
    let is : c.self.inside.shared.pairs ≡ shared_pairs pairs = c.self.view_is ∙ c.requires ∙ shared_now pairs c.laws.ensures in
    let I : List Pair → Type 0 = λ ps. In p ps in
    let here : In p (shared_pairs pairs) = subst I is (has_in before-strict p _ (sym c.has_pair.ensures ∙ c.if-not-has_pair.false)) in
    let found = c.in_ok-first.ensures.holders ∙ ap (λ (ps : List Pair). holders (rids_of key ps)) is in
    record {
      shared = c.take_out-in_default.ensures
          ∙ ap (without is_before p) is
          ∙ sym (without_more p pairs rise (more_have p pairs rise here (λ a b e. c.in_default.not-Two a b (found ∙ e))))
          ∙ sym (shared_without p pairs c.laws.ensures);
      unchanged = tt;
      memory = tt;
    }

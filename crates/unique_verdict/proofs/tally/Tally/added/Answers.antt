use Rattle.std.proofs.Common.{refl, sym, ap, ◌∙◌, subst}
use Rattle.std.proofs.lemmas.Bool.{both_ways}
use Rattle.keybytes.specs.declared.pair.Pair.{Pair}
use Rattle.tree_nodes.specs.Lists.{In, put, without}
use Rattle.tree_nodes.specs.Order.{is_before}
use Rattle.tree_nodes.proofs.Strict.{before-strict}
use Rattle.tree_nodes.proofs.Places.{put_present}
use Rattle.btree.proofs.Sets.{rises_of}
use Rattle.unique_verdict.specs.Shared.{shared_pairs}
use Rattle.unique_verdict.proofs.Members.{in_has, without_put}
use Rattle.unique_verdict.proofs.HolderFacts.{none_has, least_has}
use Rattle.unique_verdict.proofs.SharedChanges.{put_alone, put_shared}
use Rattle.unique_verdict.proofs.TreeSets.{shared_now, shared_with}
use Rattle.unique_verdict.proofs.tally.Tally.added.Goals as goal

pub returns-then-has_pair-clause-shared : goal.returns-then-has_pair-clause-shared
returns-then-has_pair-clause-shared c =
    let p : Pair = record { key = c.args.key.now; rid = c.args.rid } in
    let pairs = c.args.tree.now.pairs in
    c.requires ∙ shared_now pairs c.laws.ensures
    ∙ ap shared_pairs (sym (put_present before-strict p pairs (rises_of _ c.laws.ensures) (sym c.has_pair.ensures ∙ c.if-has_pair.true)))
    ∙ sym (shared_with p pairs c.laws.ensures)

pub returns-in_default-clause-shared : goal.returns-in_default-clause-shared
returns-in_default-clause-shared c =
    let p : Pair = record { key = c.args.key.now; rid = c.args.rid } in
    let pairs = c.args.tree.now.pairs in
    let rise = rises_of _ c.laws.ensures in
    c.requires ∙ shared_now pairs c.laws.ensures
    ∙ sym (put_alone p pairs rise (none_has c.args.key.now pairs rise (sym c.in_default.ensures)))
    ∙ sym (shared_with p pairs c.laws.ensures)

pub returns-then-not-there-clause-unchanged : goal.returns-then-not-there-clause-unchanged
returns-then-not-there-clause-unchanged c =
    let other : Pair = record { key = c.args.key.now; rid = c.in-Some.other } in
    let now = c.self.inside.shared.pairs in
    c.take_out.ensures
    ∙ ap (without is_before other) (c.in-Err.ensures.err ∙ c.in_ok-put_copy.ensures.ok)
    ∙ without_put before-strict other now (rises_of _ c.laws-2.ensures) (λ i. both_ways _ c.if-not-there.true (c.has_pair-there.ensures
    ∙ in_has before-strict other now i))
    ∙ c.self.view_is

pub returns-else-not-there-clause-unchanged : goal.returns-else-not-there-clause-unchanged
returns-else-not-there-clause-unchanged c =
    let other : Pair = record { key = c.args.key.now; rid = c.in-Some.other } in
    c.in-Err.ensures.err
    ∙ c.in_ok-put_copy.ensures.ok
    ∙ put_present before-strict other c.self.inside.shared.pairs (rises_of _ c.laws-2.ensures) (sym c.has_pair-there.ensures ∙ c.if-not-there.false)
    ∙ c.self.view_is

pub returns-clause-shared : goal.returns-clause-shared
returns-clause-shared c =
    let p : Pair = record { key = c.args.key.now; rid = c.args.rid } in
    let other : Pair = record { key = c.args.key.now; rid = c.in-Some.other } in
    let pairs = c.args.tree.now.pairs in
    let rise = rises_of _ c.laws.ensures in
    let there : In other pairs = least_has c.args.key.now pairs c.in-Some.other rise (sym c.in-Some.ensures) in
    let I : Pair → Type 0 = λ x. In x pairs in
    c.in_default-put_copy.ensures.ok
    ∙ ap (put is_before p) (c.in_ok-put_copy.ensures.ok ∙ ap (put is_before other) (c.self.view_is ∙ c.requires ∙ shared_now pairs c.laws.ensures))
    ∙ sym (put_shared p other pairs rise there refl
    (λ e. both_ways _ c.if-has_pair.false (c.has_pair.ensures ∙ in_has before-strict p pairs (subst I e there))))
    ∙ sym (shared_with p pairs c.laws.ensures)

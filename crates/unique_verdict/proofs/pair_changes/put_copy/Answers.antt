use Rattle.std.proofs.Common.{ℕ, List, sym, ap, ◌∙◌}
use Rattle.std.specs.Prelude.{Some}
use Rattle.keybytes.specs.declared.pair.Pair.{Pair}
use Rattle.keybytes.specs.Pairs.{set_of, with_pair}
use Rattle.tree_nodes.proofs.Strict.{before-strict}
use Rattle.tree_nodes.proofs.Places.{put_present}
use Rattle.btree.proofs.Sets.{rises_of}
use Rattle.unique_verdict.proofs.TreeSets.{put_by_sets}
use Rattle.unique_verdict.proofs.pair_changes.put_copy.Goals as goal

pub returns-then-has_pair-clause-ok : goal.returns-then-has_pair-clause-ok
returns-then-has_pair-clause-ok c =
    sym (put_present before-strict _ c.args.tree.now.pairs (rises_of _ c.laws.ensures) (sym c.has_pair.ensures ∙ c.if-has_pair.true))

pub returns-clause-ok : goal.returns-clause-ok
returns-clause-ok c =
    let p : Pair = record { key = c.args.key.now; rid = c.args.rid } in
    put_by_sets p c.args.tree.now.pairs _ c.laws.ensures c.laws-2.ensures
    (c.insert.ensures ∙ ap
    (λ (key : List ℕ). with_pair (Some (record { key = key; rid = c.args.rid })) (set_of c.make_room.new.self.pairs)) c.in_ok-copy.ensures.same
    ∙ ap (λ (ps : List Pair). with_pair (Some p) (set_of ps)) c.in_ok-make_room.ensures.pairs)

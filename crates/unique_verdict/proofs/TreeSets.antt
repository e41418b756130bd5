-- Sets of pairs, and the lists that they are in order.
use Rattle.std.proofs.Common.{◌≡◌, List, sym, ap, ◌∙◌}
use Rattle.std.specs.Prelude.{Some}
use Rattle.std.specs.FinMap.{keys}
use Rattle.keybytes.specs.declared.pair.Pair.{Pair}
use Rattle.keybytes.specs.Pairs.{set_of, with_pair, without_pair, AreOrdered}
use Rattle.tree_nodes.specs.Lists.{put, without}
use Rattle.tree_nodes.specs.Order.{is_before}
use Rattle.tree_nodes.proofs.Strict.{before-strict}
use Rattle.tree_nodes.proofs.Rising.{rising_put, rising_without}
use Rattle.unique_verdict.specs.Shared.{shared_pairs, shared_of}
use Rattle.btree.proofs.Sets.{put_is, without_is, ordered_of, rises_of}

pub keys_with : (p : Pair) (ps : List Pair) → AreOrdered ps → keys (with_pair (Some p) (set_of ps)) ≡ put is_before p ps
keys_with p ps o = ap keys (sym (put_is p ps)) ∙ sym (ordered_of (put is_before p ps) (rising_put before-strict p ps (rises_of ps o)))

pub keys_without : (p : Pair) (ps : List Pair) → AreOrdered ps → keys (without_pair (Some p) (set_of ps)) ≡ without is_before p ps
keys_without p ps o = ap keys (sym (without_is p ps (rises_of ps o)))
    ∙ sym (ordered_of (without is_before p ps) (rising_without is_before p ps (rises_of ps o)))

pub put_by_sets : (p : Pair) (ps new : List Pair) → AreOrdered ps → AreOrdered new → set_of new ≡ with_pair (Some p) (set_of ps) → new ≡ put is_before p ps
put_by_sets p ps new o n is = n ∙ ap keys is ∙ keys_with p ps o

pub without_by_sets : (p : Pair) (ps new : List Pair) → AreOrdered ps → AreOrdered new → set_of new ≡ without_pair (Some p) (set_of ps)
    → new ≡ without is_before p ps
without_by_sets p ps new o n is = n ∙ ap keys is ∙ keys_without p ps o

pub shared_now : (ps : List Pair) → AreOrdered ps → shared_of (set_of ps) ≡ shared_pairs ps
shared_now ps o = ap shared_pairs (sym o)

pub shared_with : (p : Pair) (ps : List Pair) → AreOrdered ps → shared_of (with_pair (Some p) (set_of ps)) ≡ shared_pairs (put is_before p ps)
shared_with p ps o = ap shared_pairs (keys_with p ps o)

pub shared_without : (p : Pair) (ps : List Pair) → AreOrdered ps → shared_of (without_pair (Some p) (set_of ps)) ≡ shared_pairs (without is_before p ps)
shared_without p ps o = ap shared_pairs (keys_without p ps o)

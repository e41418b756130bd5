use Rattle.std.proofs.Common.{List, [], ◌∷◌, ◌++◌, map, ap, ◌∙◌}
use Rattle.unique_verdict.specs.Holders.{holders}
use Rattle.unique_verdict.proofs.Ranges.{rids_between}
use Rattle.keybytes.specs.declared.pair.Pair.{Pair}
use Rattle.unique_verdict.proofs.key_search.holders_in.Goals as goal

pub returns-clause-holders : goal.returns-clause-holders
returns-clause-holders c =
    c.of_pairs.ensures ∙ ap (λ (ps : List Pair). holders (map (λ p. p.rid) ps)) c.in_ok-pairs.ensures.pairs
    ∙ ap holders (rids_between c.args.key.now _ c.args.tree.now.pairs (c.in_ok-add.ensures.ok ∙ ap (λ ks. ks ++ 0 ∷ []) c.in_ok-end.ensures.same))

use Rattle.std.proofs.Common.{◌∙◌, List, map, sym, subst}
use Rattle.std.specs.Prelude.{IfOk, IsPermutation}
use Rattle.btree.specs.TreeValue.{TreeValue}
use Rattle.page_workers.specs.SpoolValue.{spool_value}
use Rattle.keybytes.specs.declared.pair.Pair.{Pair}
use Rattle.run_spool.specs.Spools.{all_pairs}
use Rattle.run_merge.specs.Merging.{all_runs}
use Rattle.index_load.proofs.SpoolsSeen.{runs_seen, stakes_seen}
use Rattle.index_load.proofs.merging.built_in_threads.Goals as goal

pub returns : goal.returns
returns g c =
    let spool = g.S.Spool in
    let spools = c.args.spools.items in
    let merged = c.tree_in_threads-tree in
    c.made_of.ensures (map (spool_value spool.runs spool.open_run spool.stake) spools)
    (sym (stakes_seen spool.runs spool.open_run spool.stake spools) ∙ sym merged.ensures.stakes)
    (subst (λ (rs : List (List (List Pair))). IfOk merged.result.0 (λ (t : TreeValue). IsPermutation (all_pairs (all_runs rs)) t.pairs))
    (runs_seen spool.runs spool.open_run spool.stake spools) merged.ensures.all)

use Rattle.std.proofs.Common.{All, List, subst}
use Rattle.keybytes.specs.declared.pair.Pair.{Pair}
use Rattle.run_spool.specs.Spools.{AreSorted, all_pairs}
use Rattle.run_merge.specs.Merging.{all_runs}
use Rattle.bulk_load.specs.Each.{AreEachOnce}
use Rattle.index_load.proofs.SpoolsSeen.{runs_seen}
use Rattle.index_load.proofs.index_load.IndexLoad.new.Goals as goal

pub invariant_of-result : goal.invariant_of-result
invariant_of-result g c =
    let spool = g.S.Spool in
    let seen = runs_seen spool.runs spool.open_run spool.stake c.args.spools.items in
    λ _ _. record {
      sorted = subst (All AreSorted) seen c.requires.sorted;
      once = subst (λ (rs : List (List (List Pair))). AreEachOnce (all_pairs (all_runs rs))) seen c.requires.once;
    }

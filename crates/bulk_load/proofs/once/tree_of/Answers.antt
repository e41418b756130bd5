use Rattle.std.proofs.Common.{◌≡◌, List, map, IsPermutation, sym, subst}
use Rattle.std.proofs.lemmas.Result.{IfOk-weaker}
use Rattle.keybytes.specs.declared.pair.Pair.{Pair}
use Rattle.run_spool.specs.Spools.{all_pairs}
use Rattle.run_merge.specs.Merging.{all_runs}
use Rattle.bulk_load.specs.Each.{in_order}
use Rattle.bulk_load.proofs.InOrder.{all_sorted, set_ordered, set_moved}
use Rattle.bulk_load.proofs.once.tree_of.Goals as goal

pub new-requires-clause-sorted : goal.new-requires-clause-sorted
new-requires-clause-sorted g c = all_sorted (map g.S.Spool.runs c.args.spools.items) c.requires.sorted

pub load-tree-requires : goal.load-tree-requires
load-tree-requires g c = set_ordered (all_pairs (all_runs c.in-Ok.once.runs))

pub returns-clause-all : goal.returns-clause-all
returns-clause-all g c =
    let made : List Pair = all_pairs (all_runs (map g.S.Spool.runs c.args.spools.items)) in
    let loaded : List Pair = in_order (all_runs c.in-Ok.once.runs) in
    let all : IsPermutation made loaded =
    subst (λ (runs : List (List (List Pair))). IsPermutation made (in_order (all_runs runs))) (sym c.in-Ok.ensures.runs) (set_moved made c.requires.once) in
    IfOk-weaker c.load-tree.result (λ tree. tree.pairs ≡ loaded) (λ tree. IsPermutation made tree.pairs)
    (λ tree is. subst (IsPermutation made) (sym is) all) c.load-tree.ensures.pairs

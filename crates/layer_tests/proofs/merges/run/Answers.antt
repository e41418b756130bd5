use Rattle.std.proofs.Common.{◌≡◌, List, map, drop, sym, subst, arith, length}
use Rattle.run_spool.specs.Spools.{AreSorted}
use Rattle.run_merge.specs.Merging.{all_runs}
use Rattle.layer_tests.proofs.Flat.{written_back}
use Rattle.layer_tests.proofs.merges.run.Goals as goal

pub merged-requires : goal.merged-requires
merged-requires g c =
    let new = c.fill_from_table.new.spools in
    let long : length new ≡ c.args.spools.len = omega (arith, c.fill_from_table.auto.spools, c.as_mut_slice.ensures.len, c.args.spools.ok.0) in
    subst (λ (xs : List g.row.S.Denot). AreSorted (all_runs (map g.S.Spool.runs xs)))
    (sym (written_back c.args.spools.len new (drop (length new) c.args.spools.items) long)) c.in_ok-fill_from_table.ensures

use Rattle.std.proofs.Common.{◌≡◌, sym, subst, List}
use Rattle.std.specs.Prelude.{IfOk, slice_get}
use Rattle.std.proofs.Math.Seq.{map-set_same}
use Rattle.keybytes.specs.declared.pair.Pair.{Pair}
use Rattle.run_merge.proofs.Places.{run_there}
use Rattle.run_merge.proofs.spool_runs.read.Goals as goal

pub returns-clause-pair : goal.returns-clause-pair
returns-clause-pair g c =
    subst (λ (r : List Pair). IfOk c.pair_at.result (λ pair. pair ≡ slice_get r c.args.n))
    (sym (run_there g.S.Spool.runs c.args.spools.now c.args.run c.args.place c.index-spools-place.result c.requires)) c.pair_at.ensures.pair

pub returns-clause-runs : goal.returns-clause-runs
returns-clause-runs g c =
    map-set_same g.S.Spool.runs c.args.spools.now c.args.place.spool c.pair_at.new.spool c.index-spools-place.result c.pair_at.ensures.runs

pub returns-clause-open_runs : goal.returns-clause-open_runs
returns-clause-open_runs g c =
    map-set_same g.S.Spool.open_run c.args.spools.now c.args.place.spool c.pair_at.new.spool c.index-spools-place.result c.pair_at.ensures.open_run

pub returns-clause-stakes : goal.returns-clause-stakes
returns-clause-stakes g c =
    map-set_same g.S.Spool.stake c.args.spools.now c.args.place.spool c.pair_at.new.spool c.index-spools-place.result c.pair_at.ensures.stake

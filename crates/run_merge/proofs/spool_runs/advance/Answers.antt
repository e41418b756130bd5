use Rattle.std.proofs.Common.{◌≡◌, ◌<◌, ◌∙◌, ap, sym, subst, List, [], length, get_or, set, drop, map}
use Rattle.std.specs.Prelude.{IfOk, slice_get}
use Rattle.run_merge.specs.Merging.{all_runs}
use Rattle.std.proofs.Math.Seq.{map-set_same}
use Rattle.std.proofs.lemmas.Result.{on_ok_weaker, on_err_weaker}
use Rattle.keybytes.specs.declared.pair.Pair.{Pair}
use Rattle.run_merge.proofs.Places.{in_spool, run_there, run_there_set, places_stay}
use Rattle.run_merge.proofs.spool_runs.advance.Given as given
use Rattle.run_merge.proofs.spool_runs.advance.Goals as goal
use Rattle.run_merge.proofs.spool_runs.advance.Goals.{After-index-spools-place}

-- the run in the spool where it stands
own_run :
    (g : given.Over) (c : After-index-spools-place g)
    → get_or (all_runs (map g.S.Spool.runs c.args.spools.now)) c.args.run []
    ≡ get_or (g.S.Spool.runs (get_or c.args.spools.now c.args.place.spool c.index-spools-place.result)) c.args.place.run []
own_run g c = run_there g.S.Spool.runs c.args.spools.now c.args.run c.args.place c.index-spools-place.result c.requires.place

pub free_first-requires-clause-pair : goal.free_first-requires-clause-pair
free_first-requires-clause-pair g c = subst (λ (r : List Pair). 0 < length r) (own_run g c) c.requires.pair

pub returns-clause-second : goal.returns-clause-second
returns-clause-second g c =
    let is = own_run g (goal.at.returns-clause-second g c).After-index-spools-place in
    subst (λ (r : List Pair). IfOk c.free_first.result (λ second. second ≡ slice_get r 2)) (sym is) c.free_first.ensures.second

pub returns-clause-freed : goal.returns-clause-freed
returns-clause-freed g c =
    let runs = g.S.Spool.runs in
    let spools = c.args.spools.now in
    let d = c.index-spools-place.result in
    let is = own_run g (goal.at.returns-clause-freed g c).After-index-spools-place in
    on_ok_weaker c.free_first.result (λ freed.
    run_there_set runs spools c.args.run c.args.place d c.free_first.new.spool _ c.requires.place freed
    ∙ ap (λ (r : List Pair). set (all_runs (map runs spools)) c.args.run (drop 1 r)) (sym is)) c.free_first.ensures.freed

pub returns-clause-refused : goal.returns-clause-refused
returns-clause-refused g c =
    on_err_weaker c.free_first.result (map-set_same g.S.Spool.runs c.args.spools.now c.args.place.spool c.free_first.new.spool
    c.index-spools-place.result) c.free_first.ensures.refused

pub returns-clause-open_runs : goal.returns-clause-open_runs
returns-clause-open_runs g c =
    map-set_same g.S.Spool.open_run c.args.spools.now c.args.place.spool c.free_first.new.spool c.index-spools-place.result c.free_first.ensures.open_run

pub returns-clause-stakes : goal.returns-clause-stakes
returns-clause-stakes g c =
    map-set_same g.S.Spool.stake c.args.spools.now c.args.place.spool c.free_first.new.spool c.index-spools-place.result c.free_first.ensures.stake

pub returns-clause-places : goal.returns-clause-places
returns-clause-places g c = λ n at is.
    let runs = g.S.Spool.runs in
    let spools = c.args.spools.now in
    places_stay runs spools c.args.place.spool c.index-spools-place.result c.free_first.new.spool
    (in_spool runs spools c.args.run c.args.place c.requires.place) c.free_first.ensures.count n at is

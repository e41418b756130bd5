use Rattle.std.proofs.Common.{ap, length, arith}
use Rattle.run_merge.specs.declared.place.Place.{Place}
use Rattle.run_merge.proofs.Places.{is_place}
use Rattle.run_merge.proofs.spool_runs.place.Goals as goal

pub returns-then-left-count : goal.returns-then-left-count
returns-then-left-count g c =
    let spools = c.args.spools.now in
    let at : Place = record { spool = c.loop-spool.spool; run = c.loop-spool.left } in
    is_place g.S.Spool.runs spools c.args.run at c.index-spools-spool.result c.loop-spool-test.true
    (omega (arith, c.if-left-count.true, c.run_count-count.ensures, ap (λ s. length (g.S.Spool.runs s)) c.index-spools-spool.is))
    c.loop-spool.invariant.before

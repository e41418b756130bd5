use Rattle.std.proofs.Common.{◌≡◌, [], ◌<◌, ◌∙◌, length, arith}
use Rattle.std.proofs.Math.Seq.{map-set_same}
use Rattle.run_spool.proofs.EachSpool.{written_more, all_written}
use Rattle.run_spool.proofs.many.end_all.Goals as goal

pub loop-spool-preserved : goal.loop-spool-preserved
loop-spool-preserved g c =
    let spools = c.loop-spool.spool-items in
    let i = c.loop-spool.spool-index in
    let was = c.loop-spool.invariant in
    let ended = c.end.ensures in
    let inside : i < length spools = omega (arith, c.loop-spool-test.true) in
    record {
      ended = written_more g.S.Spool.ended spools i c.end.new.self inside was.ended ended.ended;
      pages = written_more (λ spool. g.S.Spool.pages spool ≡ 0) spools i c.end.new.self inside was.pages ended.pages;
      runs = written_more (λ spool. g.S.Spool.runs spool ≡ []) spools i c.end.new.self inside was.runs ended.runs;
      open_runs = written_more (λ spool. g.S.Spool.open_run spool ≡ []) spools i c.end.new.self inside was.open_runs ended.open_run;
      stakes = map-set_same g.S.Spool.stake spools i c.end.new.self c.spool-item.result ended.stake ∙ was.stakes;
    }

pub returns-clause-ended : goal.returns-clause-ended
returns-clause-ended g c =
    all_written g.S.Spool.ended c.loop-spool.spool-items c.loop-spool.spool-index (omega (arith, c.loop-spool-test.false)) c.loop-spool.invariant.ended

pub returns-clause-pages : goal.returns-clause-pages
returns-clause-pages g c =
    all_written (λ spool. g.S.Spool.pages spool ≡ 0) c.loop-spool.spool-items c.loop-spool.spool-index (omega (arith, c.loop-spool-test.false))
    c.loop-spool.invariant.pages

pub returns-clause-runs : goal.returns-clause-runs
returns-clause-runs g c =
    all_written (λ spool. g.S.Spool.runs spool ≡ []) c.loop-spool.spool-items c.loop-spool.spool-index (omega (arith, c.loop-spool-test.false))
    c.loop-spool.invariant.runs

pub returns-clause-open_runs : goal.returns-clause-open_runs
returns-clause-open_runs g c =
    all_written (λ spool. g.S.Spool.open_run spool ≡ []) c.loop-spool.spool-items c.loop-spool.spool-index (omega (arith, c.loop-spool-test.false))
    c.loop-spool.invariant.open_runs

use Rattle.std.proofs.Common.{subst, sym, arith}
use Rattle.page_workers.proofs.Places.{at_index}
use Rattle.index_load.specs.IndexLoad.{HasRun, IndexLoadValue}
use Rattle.crew.proofs.Placewise.{zip_more}
use Rattle.crew.proofs.online_build.loading.run_here.Goals as goal

pub loop-load-preserved : goal.loop-load-preserved
loop-load-preserved g c =
    let i = c.loop-load.load-index in
    let items = c.loop-load.load-items in
    let load = c.load-item.result in
    let at = at_index items i load c.load-item.is (omega (arith, c.loop-load-test.true, c.loop-load.auto.load-items)) in
    let ran = subst (λ (l : IndexLoadValue). HasRun l c.run.new.self) (sym c.load-item.is) c.run.ensures in
    let more = zip_more HasRun c.args.loads.now items i load c.run.new.self c.loop-load.invariant.ran c.loop-load.invariant.left at ran in
    record { ran = more.0; left = more.1 }

use Rattle.std.proofs.Common.{◌≡◌, drop, take}
use Rattle.std.specs.List.{AllZip}
use Rattle.index_load.specs.IndexLoad.{HasRun}
use Rattle.crew.proofs.online_build.loading.run_here.Given as goal

abbrev pub invariant-loop-load : goal.invariant-loop-load
invariant-loop-load g l = record {
  ran : AllZip HasRun (take l.load-index l.fn.loads) (take l.load-index l.load-items);
  left : drop l.load-index l.load-items ≡ drop l.load-index l.fn.loads;
}

use Rattle.std.proofs.Common.{◌≡◌, All, length, map}
use Rattle.run_spool.specs.Spools.{AreSorted}
use Rattle.run_maker.specs.Making.{AreReady}
use Rattle.layer_tests.proofs.merges.filling.take_pages.Given as goal

abbrev pub invariant-loop-page : goal.invariant-loop-page
invariant-loop-page g l = record {
  columns : l.maker.schema ≡ l.heap.state.schema;
  specs : l.maker.specs ≡ l.initial.maker.specs;
  ready : AreReady (map g.S.Spool.runs l.spools) (map g.S.Spool.open_run l.spools);
  sorted : All AreSorted (map g.S.Spool.runs l.initial.spools) → All AreSorted (map g.S.Spool.runs l.spools);
  stakes : map g.S.Spool.stake l.spools ≡ map g.S.Spool.stake l.initial.spools;
  long : length l.spools ≡ length l.initial.spools;
}

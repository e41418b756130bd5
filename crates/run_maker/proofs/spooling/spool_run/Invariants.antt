use Rattle.std.proofs.Common.{◌≡◌, ◌≤◌, ◌++◌, length, reverse}
use Rattle.run_maker.proofs.spooling.spool_run.Given as goal

abbrev pub invariant-loop-pair : goal.invariant-loop-pair
invariant-loop-pair g l = record {
  moved : g.S.Spool.open_run l.spool ++ reverse l.pairs.items ≡ reverse l.initial.pairs.items;
  fewer : length l.pairs.items ≤ length l.initial.pairs.items;
  runs : g.S.Spool.runs l.spool ≡ g.S.Spool.runs l.initial.spool;
  intact : g.S.Spool.is_intact l.initial.spool → g.S.Spool.is_intact l.spool;
  stake : g.S.Spool.stake l.spool ≡ g.S.Spool.stake l.initial.spool;
}

abbrev pub decreases-loop-pair : goal.decreases-loop-pair
decreases-loop-pair g l = goal.left-loop-pair g l

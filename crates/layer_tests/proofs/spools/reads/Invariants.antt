use Rattle.std.proofs.Common.{◌≡◌, [], length, get_or}
use Rattle.layer_tests.proofs.spools.reads.Given as goal

abbrev pub invariant-loop-place : goal.invariant-loop-place
invariant-loop-place g l = record {
  runs : g.S.Spool.runs l.spool ≡ g.S.Spool.runs l.initial.spool;
  end : l.place-end ≡ length (get_or (g.S.Spool.runs l.initial.spool) 0 []);
}

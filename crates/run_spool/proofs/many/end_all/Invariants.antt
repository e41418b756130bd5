use Rattle.std.proofs.Common.{◌≡◌, [], All, map, take}
use Rattle.run_spool.proofs.many.end_all.Given as goal

abbrev pub invariant-loop-spool : goal.invariant-loop-spool
invariant-loop-spool g l = record {
  ended : All g.S.Spool.ended (take l.spool-index l.spool-items);
  pages : All (λ spool. g.S.Spool.pages spool ≡ 0) (take l.spool-index l.spool-items);
  runs : All (λ spool. g.S.Spool.runs spool ≡ []) (take l.spool-index l.spool-items);
  open_runs : All (λ spool. g.S.Spool.open_run spool ≡ []) (take l.spool-index l.spool-items);
  stakes : map g.S.Spool.stake l.spool-items ≡ map g.S.Spool.stake l.fn.spools;
}

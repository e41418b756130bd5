use Rattle.std.proofs.Common.{◌≡◌, length, take}
use Rattle.std.specs.List.{flat_map}
use Rattle.run_merge.proofs.spool_runs.run_count.Given as goal

abbrev pub invariant-loop-spool : goal.invariant-loop-spool
invariant-loop-spool g l = l.count ≡ length (flat_map g.S.Spool.runs (take l.spool-index l.spools))

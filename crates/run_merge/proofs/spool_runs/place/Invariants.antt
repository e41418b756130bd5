use Rattle.std.proofs.Common.{◌≡◌, ◌+◌, ◌-◌, ◌≤◌, length, take}
use Rattle.std.specs.List.{flat_map}
use Rattle.run_merge.proofs.spool_runs.place.Given as goal

abbrev pub invariant-loop-spool : goal.invariant-loop-spool
invariant-loop-spool g l = record {
  inside : l.spool ≤ length l.spools;
  before : length (flat_map g.S.Spool.runs (take l.spool l.spools)) + l.left ≡ l.run;
}

abbrev pub decreases-loop-spool : goal.decreases-loop-spool
decreases-loop-spool g l = length l.spools - l.spool

use Rattle.std.proofs.Common.{◌≡◌, take, length, map}
use Rattle.std.specs.Prelude.{count_by}
use Rattle.run_merge.specs.Leading.{NoneDone}
use Rattle.run_merge.specs.Merging.{all_runs, has_pair, IsStart, AreSeconds}
use Rattle.run_merge.specs.Places.{ArePlaces}
use Rattle.run_merge.proofs.lanes.Lanes.new.Given as goal

abbrev pub invariant-loop-run : goal.invariant-loop-run
invariant-loop-run g l = record {
  runs : map g.S.Spool.runs l.spools ≡ map g.S.Spool.runs l.initial.spools;
  open_runs : map g.S.Spool.open_run l.spools ≡ map g.S.Spool.open_run l.initial.spools;
  stakes : map g.S.Spool.stake l.spools ≡ map g.S.Spool.stake l.initial.spools;
  end : l.count ≡ length (all_runs (map g.S.Spool.runs l.initial.spools));
  start : IsStart (all_runs (map g.S.Spool.runs l.initial.spools)) l.runs.items l.heads.items l.run;
  seconds : AreSeconds (all_runs (map g.S.Spool.runs l.initial.spools)) l.runs.items l.seconds.items;
  places : ArePlaces (map g.S.Spool.runs l.initial.spools) l.runs.items l.places.items;
  ways : length l.runs.items ≡ count_by has_pair (take l.run (all_runs (map g.S.Spool.runs l.initial.spools)));
  pairs : NoneDone l.heads.items;
}

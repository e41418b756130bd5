use Rattle.std.proofs.Common.{◌≡◌, [], All, length, map}
use Rattle.run_spool.specs.Spools.{AreSorted, NoneFreed}
use Rattle.run_maker.specs.Spooling.{Spooled}
use Rattle.run_maker.specs.Making.{AreReady, Reached}
use Rattle.run_maker.proofs.sealing.close_all.Given as goal

abbrev pub invariant-loop-i : goal.invariant-loop-i
invariant-loop-i g l = record {
  reached : Reached (λ i runs begun new left. Spooled begun runs new × (left ≡ [])) l.i
      (record { runs = map g.S.Spool.runs l.initial.spools; begun = l.initial.begun }) (record { runs = map g.S.Spool.runs l.spools; begun = l.begun });
  ready : AreReady (map g.S.Spool.runs l.spools) (map g.S.Spool.open_run l.spools);
  sorted : All AreSorted (map g.S.Spool.runs l.initial.spools) → All AreSorted (map g.S.Spool.runs l.spools);
  intact : All (NoneFreed g.S.Spool.is_intact g.S.Spool.runs) l.initial.spools → All (NoneFreed g.S.Spool.is_intact g.S.Spool.runs) l.spools;
  stakes : map g.S.Spool.stake l.spools ≡ map g.S.Spool.stake l.initial.spools;
  long_spools : length l.spools ≡ length l.initial.spools;
  long_begun : length l.begun ≡ length l.initial.begun;
}

use Rattle.std.proofs.Common.{◌≡◌, All, Some, length, map}
use Rattle.std.specs.Option.{option_to_list}
use Rattle.keybytes.specs.Pairs.{pair_with}
use Rattle.run_spool.specs.Spools.{AreSorted, NoneFreed}
use Rattle.run_maker.specs.Spooling.{Adds}
use Rattle.run_maker.specs.Making.{AreReady, Reached, spec_at}
use Rattle.run_maker.proofs.rows.add_row.Given as goal

abbrev pub invariant-loop-i : goal.invariant-loop-i
invariant-loop-i g l = record {
  reached : Reached (λ i. Adds (option_to_list (pair_with (spec_at l.specs i) l.rid (Some l.row)))) l.i
      (record { runs = map g.S.Spool.runs l.initial.spools; begun = l.initial.begun }) (record { runs = map g.S.Spool.runs l.spools; begun = l.begun });
  ready : AreReady (map g.S.Spool.runs l.spools) (map g.S.Spool.open_run l.spools);
  sorted : All AreSorted (map g.S.Spool.runs l.initial.spools) → All AreSorted (map g.S.Spool.runs l.spools);
  intact : All (NoneFreed g.S.Spool.is_intact g.S.Spool.runs) l.initial.spools → All (NoneFreed g.S.Spool.is_intact g.S.Spool.runs) l.spools;
  stakes : map g.S.Spool.stake l.spools ≡ map g.S.Spool.stake l.initial.spools;
  long_spools : length l.spools ≡ length l.initial.spools;
  long_begun : length l.begun ≡ length l.initial.begun;
}

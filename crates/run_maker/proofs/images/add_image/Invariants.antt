use Rattle.std.proofs.Common.{◌≡◌, ◌<◌, ℕ, List, All, length, map}
use Rattle.keybytes.specs.declared.pair.Pair.{Pair}
use Rattle.run_spool.specs.Spools.{AreSorted, NoneFreed}
use Rattle.run_maker.specs.ImagePairs.{HasPairs}
use Rattle.run_maker.specs.Making.{AreReady, AddsAt, spec_at}
use Rattle.run_maker.proofs.CopyPairs.{pairs_before}
use Rattle.run_maker.proofs.images.add_image.Given as goal

abbrev pub invariant-loop-slot : goal.invariant-loop-slot
invariant-loop-slot g l = record {
  added : (i : ℕ) → i < length l.specs → (made : List Pair) → (has : HasPairs (spec_at l.specs i) l.image made)
      → AddsAt i (pairs_before (spec_at l.specs i) l.image.page has.rows l.slot)
      (record { runs = map g.S.Spool.runs l.initial.spools; begun = l.initial.begun }) (record { runs = map g.S.Spool.runs l.spools; begun = l.begun });
  ready : AreReady (map g.S.Spool.runs l.spools) (map g.S.Spool.open_run l.spools);
  sorted : All AreSorted (map g.S.Spool.runs l.initial.spools) → All AreSorted (map g.S.Spool.runs l.spools);
  intact : All (NoneFreed g.S.Spool.is_intact g.S.Spool.runs) l.initial.spools → All (NoneFreed g.S.Spool.is_intact g.S.Spool.runs) l.spools;
  stakes : map g.S.Spool.stake l.spools ≡ map g.S.Spool.stake l.initial.spools;
  long_spools : length l.spools ≡ length l.initial.spools;
  long_begun : length l.begun ≡ length l.initial.begun;
}

use Rattle.std.proofs.Common.{◌≡◌, All, length, map}
use Rattle.heap_table.specs.Images.{IsReadable}
use Rattle.run_spool.specs.Spools.{AreSorted, NoneFreed}
use Rattle.run_maker.specs.Making.{AreReady}
use Rattle.page_workers.specs.Holding.{TakesAll}
use Rattle.page_workers.specs.Work.{next_images, after_digest}
use Rattle.page_workers.proofs.intake.Intake.seal.Given as goal

abbrev pub invariant-loop : goal.invariant-loop
invariant-loop g l = record {
  taken : l.self ≡ after_digest l.counter l.initial.maker.schema l.initial.self;
  holds : TakesAll l.initial.maker.specs (next_images l.counter l.initial.maker.schema l.initial.self)
      (record { runs = map g.S.Spool.runs l.initial.spools; begun = l.initial.maker.begun })
      (record { runs = map g.S.Spool.runs l.spools; begun = l.maker.begun });
  ready : AreReady (map g.S.Spool.runs l.spools) (map g.S.Spool.open_run l.spools);
  sorted : All AreSorted (map g.S.Spool.runs l.initial.spools) → All AreSorted (map g.S.Spool.runs l.spools);
  intact : All (NoneFreed g.S.Spool.is_intact g.S.Spool.runs) l.initial.spools → All (NoneFreed g.S.Spool.is_intact g.S.Spool.runs) l.spools;
  stakes : map g.S.Spool.stake l.spools ≡ map g.S.Spool.stake l.initial.spools;
  schema : l.maker.schema ≡ l.initial.maker.schema;
  specs : l.maker.specs ≡ l.initial.maker.specs;
  readable : All IsReadable (next_images l.counter l.initial.maker.schema l.initial.self);
  images : l.images ≡ length (next_images l.counter l.initial.maker.schema l.initial.self);
}

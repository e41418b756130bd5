use Rattle.std.proofs.Common.{inl}
use Rattle.std.proofs.lemmas.Bool.{false≢true}
use Rattle.page_workers.proofs.Keeping.{start_counts}
use Rattle.page_workers.proofs.SpoolViews.{start_held}
use Rattle.page_workers.proofs.worker.Worker.new.Goals as goal

pub invariant_of-result : goal.invariant_of-result
invariant_of-result g c = (
  tt,
  λ _. start_counts c.args.intake c.args.maker c.requires.fresh c.requires.earlier,
  λ _ _.
      start_held g.S.Spool.runs g.S.Spool.open_run g.S.Spool.stake c.args.intake c.args.maker c.args.spools.items c.requires.earlier c.requires.many c.requires.none
      c.requires.empty,
  λ handed. absurd (false≢true handed),
  λ k spool within. inl (c.requires.empty k spool within).0,
)

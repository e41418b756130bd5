use Rattle.std.proofs.Common.{◌∙◌, sym}
use Rattle.layer_tests.proofs.Flat.{empty_ready, empty_sorted}
use Rattle.layer_tests.proofs.merges.all_empty.Goals as goal

pub returns-clause-ready : goal.returns-clause-ready
returns-clause-ready g c = λ is. empty_ready g.S.Spool.runs g.S.Spool.open_run c.args.spools.now (sym c.are_empty.ensures ∙ is)

pub returns-clause-sorted : goal.returns-clause-sorted
returns-clause-sorted g c = λ is. empty_sorted g.S.Spool.runs g.S.Spool.open_run c.args.spools.now (sym c.are_empty.ensures ∙ is)

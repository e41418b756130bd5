use Rattle.std.proofs.Common.{◌∙◌, ap}
use Rattle.run_spool.specs.PagedSpools.{runs_of}
use Rattle.run_spool.proofs.PairRuns.{freed_runs}
use Rattle.run_spool.proofs.paged_spool.PagedSpoolSpool.free_front.Goals as goal

pub returns-clause-runs : goal.returns-clause-runs
returns-clause-runs g c = ap runs_of c.free_front.ensures ∙ freed_runs c.args.self.now.runs c.args.i c.args.n

use Rattle.std.proofs.Common.{◌∙◌, ap}
use Rattle.std.specs.Prelude.{map}
use Rattle.run_spool.specs.Runs.{pairs_of}
use Rattle.run_spool.specs.PagedSpools.{PagedSpoolValue}
use Rattle.run_spool.proofs.PairRuns.{closed_intact, closed_pairs}
use Rattle.run_spool.proofs.paged_spool.PagedSpoolSpool.end_run.Goals as goal

pub returns-clause-runs : goal.returns-clause-runs
returns-clause-runs g c =
    ap (λ (s : PagedSpoolValue). map pairs_of s.runs) c.end_run.ensures ∙ closed_pairs c.args.self.now.runs c.args.self.now.open_run c.laws.ensures.each

pub returns-clause-intact : goal.returns-clause-intact
returns-clause-intact g c =
    λ free. (rw c.end_run.ensures (closed_intact g.P.PageOfPairs.pair_size c.args.self.now.runs c.args.self.now.open_run c.laws.ensures.packed free))

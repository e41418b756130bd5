use Rattle.std.proofs.Common.{ap, List}
use Rattle.std.specs.Prelude.{map}
use Rattle.run_spool.specs.Pages.{PageValue}
use Rattle.run_spool.specs.Runs.{pairs_of}
use Rattle.run_spool.proofs.PairRuns.{no_runs}
use Rattle.run_spool.proofs.paged_spool.PagedSpoolSpool.is_empty.Goals as goal

pub returns : goal.returns
returns g c =
    let e = c.is_empty.ensures in (
      λ t. (ap (λ (runs : List (List PageValue)). map pairs_of runs) (e.0 t).0, (e.0 t).1),
      λ none. e.1 (no_runs c.args.self.now.runs none.0, none.1),
    )

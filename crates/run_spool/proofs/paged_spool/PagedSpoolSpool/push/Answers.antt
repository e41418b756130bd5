use Rattle.run_spool.proofs.PairRuns.{none_empty}
use Rattle.run_spool.proofs.paged_spool.PagedSpoolSpool.push.Goals as goal

pub push-requires : goal.push-requires
push-requires g c = none_empty c.args.self.now.runs c.requires

use Rattle.run_spool.specs.Spools.{all_pairs}
use Rattle.bulk_load.proofs.InOrder.{set_ordered}
use Rattle.bulk_load.proofs.dealing.filled.Goals as goal

pub load-requires : goal.load-requires
load-requires g c = set_ordered (all_pairs c.in_ok-merged.merged)

use Rattle.heap_log.specs.Standing.{standing_count}
use Rattle.replay.proofs.txn.+take_back.Given as goal

abbrev pub decreases-take_back : goal.decreases-take_back
decreases-take_back g l = standing_count l.leased.now.live.heap.log l.txn

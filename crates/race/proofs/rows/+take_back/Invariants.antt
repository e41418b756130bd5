use Rattle.heap_log.specs.Standing.{standing_count}
use Rattle.race.proofs.rows.+take_back.Given as goal

abbrev pub decreases-take_back : goal.decreases-take_back
decreases-take_back l = standing_count l.heap.now.state.log l.txn

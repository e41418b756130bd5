use Rattle.std.specs.Option.{unwrap_or}
use Rattle.heap_log.specs.Standing.{record_at}
use Rattle.heap_log.specs.Links.{LeadsTo, on_chain}
use Rattle.heap_log.proofs.log.Log.before_on.Given as goal

abbrev pub invariant-loop-place : goal.invariant-loop-place
invariant-loop-place l = LeadsTo (on_chain l.chain (record_at l.self.records l.number)) l.self.records l.number l.place

abbrev pub decreases-loop-place : goal.decreases-loop-place
decreases-loop-place l = unwrap_or l.place 0

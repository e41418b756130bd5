use Rattle.crew.proofs.Dealing.{dealt_more}
use Rattle.crew.proofs.online_build.range_queue.RangeQueue.push.Goals as goal

pub push_as-taken-requires-clause-rule : goal.push_as-taken-requires-clause-rule
push_as-taken-requires-clause-rule g c =
    (λ items views room dealt at. (tt, dealt_more items c.args.range c.requires dealt, tt), λ items views dealt at. tt)

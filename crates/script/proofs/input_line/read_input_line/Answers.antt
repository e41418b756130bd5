use Rattle.script.proofs.ToldLines.{one_told}
use Rattle.script.proofs.input_line.read_input_line.Goals as goal

pub loop-preserved : goal.loop-preserved
loop-preserved c =
    let next = rw c.in-Some.is at c.in_ok-next.ensures.told in
    rw c.in_ok-push-in-Some.ensures.items (one_told _ c.loop.records c.tell_next.new.records c.loop.told.items c.in-Some.next c.loop.invariant next)

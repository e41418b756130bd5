use Rattle.std.proofs.Common.{rules}
use Rattle.std.specs.Vec.Iter.{into_iter_items}
use Rattle.race.proofs.Gathering.{ran_next}
use Rattle.race.proofs.threads.run_here.Goals as goal

pub loop-script-preserved : goal.loop-script-preserved
loop-script-preserved g c =
    let i = c.loop-script.invariant in
    let next = ran_next g.T.Opened.opening c.args.scripts.items (into_iter_items c.loop-script.script-iterator) (into_iter_items c.next.new.self) c.in-Some.script
    c.args.ended.now.items c.loop-script.ended.items c.push_reserved.new.self.items c.run_one.result (i.4, i.5, i.6) c.in-Some.ensures.steps.0
    c.push_reserved.ensures.items c.run_one.ensures in
    (tt, tt, search rules, search rules, next.0, next.1, next.2)

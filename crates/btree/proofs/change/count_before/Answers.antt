use Rattle.std.proofs.Common.{sym, ◌∙◌, arith}
use Rattle.std.proofs.lemmas.List.{length-take}
use Rattle.btree.proofs.Ordered.{count_lower-le, lower_more, lower_end}
use Rattle.btree.proofs.change.count_before.Goals as goal

pub loop-high-preserved : goal.loop-high-preserved
loop-high-preserved c =
    let more = lower_more _ _ _ _ _ c.requires.order c.requires.within (omega arith) c.index.ensures (sym c.is_before.ensures ∙ c.if-not-is_before.false) in
    record { low = omega (arith, more, c.loop-high.invariant.apart); apart = omega arith; few = omega arith }

pub bisect-requires-clause-high : goal.bisect-requires-clause-high
bisect-requires-clause-high c = lower_end _ _ _ _ _ c.requires.within (omega arith) c.index.ensures (sym c.is_before.ensures ∙ c.if-not-is_before.true)

pub bisect-requires-2-clause-high : goal.bisect-requires-2-clause-high
bisect-requires-2-clause-high c =
    omega (arith, count_lower-le c.args.count c.args.queue.now.items c.args.pair.now, length-take c.args.count c.args.queue.now.items)

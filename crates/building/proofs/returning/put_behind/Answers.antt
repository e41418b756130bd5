use Rattle.std.proofs.Common.{ap, length, arith, length-append}
use Rattle.building.proofs.returning.put_behind.Goals as goal

pub push_reserved-requires : goal.push_reserved-requires
push_reserved-requires g c =
    let loop = c.loop-spool in
    let step = c.in-Some.ensures.steps.0 in
    omega (
      arith,
      ap length loop.invariant.all,
      length-append loop.spools.items loop.spool-iterator.rest.items,
      length-append c.args.spools.now.items c.args.own.items,
      ap length step,
      loop.invariant.room,
      c.requires,
      loop.spools.ok,
    )

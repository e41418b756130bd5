use Rattle.std.proofs.Common.{◌∷◌, ◌++◌, [], sym, ap, ◌∙◌, arith}
use Rattle.std.specs.Vec.Iter.{into_iter_items}
use Rattle.building.proofs.Equipping.{one_taken}
use Rattle.building.proofs.equipment.lend.Goals as goal

pub loop-preserved : goal.loop-preserved
loop-preserved g c =
    let spool = c.in-Some.spool in
    let step = one_taken (into_iter_items c.args.rest.now) (into_iter_items c.next.new.self) c.loop.counter spool
    (sym c.loop.invariant.rest ∙ c.in-Some.ensures.items) in
    record {
      own = c.push_reserved.ensures.items ∙ ap (λ l. l ++ spool ∷ []) c.loop.invariant.own ∙ sym step.0;
      rest = sym step.1;
      room = omega (arith, c.push_reserved.ensures.capacity, c.loop.invariant.room);
    }

use Rattle.std.proofs.Common.{◌≡◌, All, length, ap, sym, subst, arith}
use Rattle.std.proofs.lemmas.List.{length_push}
use Rattle.std.proofs.lemmas.List.Elements.{All-push}
use Rattle.building.specs.Equipped.{HasRoomFor}
use Rattle.building.specs.Holding.{fresh_maker}
use Rattle.building.proofs.equipment.prepare.Goals as goal

pub loop-preserved : goal.loop-preserved
loop-preserved g c =
    let inv = c.loop.invariant in
    let it = c.in_ok-one.field-0 in
    let items = c.push_reserved.ensures.items in
    record {
      many = omega (arith, ap length items, length_push c.loop.all.items it, inv.many);
      makers = subst (All (λ it. it.maker ≡ fresh_maker c.args.schema.now c.args.specs.now)) (sym items)
          (All-push (λ it. it.maker ≡ fresh_maker c.args.schema.now c.args.specs.now) c.loop.all.items it inv.makers c.in_ok-one.ensures.maker);
      own = subst (All (λ it. HasRoomFor (length c.args.specs.now) it.spools)) (sym items)
          (All-push (λ it. HasRoomFor (length c.args.specs.now) it.spools) c.loop.all.items it inv.own c.in_ok-one.ensures.room);
      room = omega (arith, c.push_reserved.ensures.capacity, inv.room);
    }

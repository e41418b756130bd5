use Rattle.std.proofs.Common.{◌∙◌, ◌∷◌, [], All, length, sym, ap, subst, arith, length-append}
use Rattle.std.proofs.lemmas.List.Elements.{All-push}
use Rattle.live_lemmas.specs.Settling.{HasRoomForBatch}
use Rattle.crew.proofs.online_build.turns.room_for_batches.Goals as goal

pub loop-preserved : goal.loop-preserved
loop-preserved c =
    let items = c.push_reserved.ensures.items in
    let batch : HasRoomForBatch 32768 c.reserve.new.self = record {
      empty = c.in_ok-reserve.ensures.items ∙ c.new-batch.ensures.items;
      room = omega (arith, c.in_ok-reserve.ensures.ok);
    } in
    record {
      many = omega (arith, ap length items, length-append c.loop.batches.items (c.reserve.new.self ∷ []), c.loop.invariant.many);
      room = subst (All (HasRoomForBatch 32768)) (sym items)
          (All-push (HasRoomForBatch 32768) c.loop.batches.items c.reserve.new.self c.loop.invariant.room batch);
      places = omega (arith, c.push_reserved.ensures.capacity, c.loop.invariant.places);
    }

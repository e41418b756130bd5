use Rattle.std.proofs.lemmas.Result.{on_ok_weaker}
use Rattle.kept_table.proofs.DuePieces.{orders_by_load, orders_if_unsealed}
use Rattle.kept_table.proofs.advancing.put_in_order.Goals as goal

pub returns-in-Some-clause-done : goal.returns-in-Some-clause-done
returns-in-Some-clause-done g c =
    on_ok_weaker c.seal.result
    (orders_if_unsealed c.in_ok-worker.field-0 c.args.index c.in-Some.worker c.args.counted.now c.load.new.counted c.seal.new.counted c.in-Some.is
    c.in_ok-worker.ensures.unsealed) c.seal.ensures.done

pub returns-in-None-clause-done : goal.returns-in-None-clause-done
returns-in-None-clause-done g c =
    orders_by_load c.args.index c.args.counted.now c.load.new.counted (c.in_ok-worker.ensures.done c.in-None.is)

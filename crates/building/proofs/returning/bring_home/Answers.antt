use Rattle.std.proofs.Common.{◌<◌, ◌≤◌, ◌∙◌, List, length, map, set, ap, arith, length-set}
use Rattle.std.proofs.lemmas.List.{length-map, map-append}
use Rattle.page_workers.specs.SpoolValue.{SpoolValue, spool_value}
use Rattle.page_workers.specs.WorkerValue.{WorkerValue}
use Rattle.building.specs.Holding.{all_spools}
use Rattle.page_workers.proofs.Places.{at_index}
use Rattle.building.proofs.BroughtHome.{all_home, moved_home, one_more, others, room_for}
use Rattle.building.proofs.returning.bring_home.Goals as goal

pub put_behind-requires : goal.put_behind-requires
put_behind-requires g c =
    let spool = g.S.Spool in
    let value = spool_value spool.runs spool.open_run spool.stake in
    let loop = c.loop-k in
    let workers : List WorkerValue = loop.workers.items in
    let it : WorkerValue = c.index_mut.result.now in
    let less : loop.k < length workers = omega (arith, c.loop-k-test.true, c.len-k-end.ensures, loop.invariant.many, c.args.workers.now.ok) in
    let at = at_index workers loop.k it c.index_mut.ensures.value less in
    let room = room_for workers (map value loop.spools.items) loop.k it at in
    let home = length-map loop.spools.items value in
    let own = length-map c.hand_over.result.items value in
    omega (arith, room, home, own, ap length c.hand_over.ensures.spools, ap length loop.invariant.all, c.requires, loop.invariant.room)

pub loop-k-preserved : goal.loop-k-preserved
loop-k-preserved g c =
    let spool = g.S.Spool in
    let value = spool_value spool.runs spool.open_run spool.stake in
    let loop = c.loop-k in
    let inv = loop.invariant in
    let old : List WorkerValue = c.args.workers.now.items in
    let workers : List WorkerValue = loop.workers.items in
    let it : WorkerValue = c.index_mut.result.now in
    let after : WorkerValue = c.hand_over.new.self in
    let below : loop.k < length old = omega (arith, c.loop-k-test.true, c.len-k-end.ensures, c.args.workers.now.ok) in
    let less : loop.k < length workers = omega (arith, below, inv.many) in
    let at = at_index workers loop.k it c.index_mut.ensures.value less in
    record {
      all =
          ap (λ (l : List SpoolValue). all_spools (set workers loop.k after) l)
          (ap (map value) c.put_behind.ensures.spools ∙ map-append value loop.spools.items c.hand_over.result.items)
          ∙ moved_home workers _ loop.k it after (map value loop.spools.items) (map value c.hand_over.result.items) inv.so_far at c.hand_over.ensures.spools c.hand_over.ensures.left
          ∙ inv.all;
      so_far = one_more old workers loop.k it after inv.many below inv.so_far inv.rest at c.hand_over.ensures.left;
      rest = others old workers loop.k it after inv.many below inv.so_far inv.rest at c.hand_over.ensures.left;
      many = length-set workers loop.k after ∙ inv.many;
      room = c.put_behind.ensures.room ∙ inv.room;
    }

pub returns-clause-spools : goal.returns-clause-spools
returns-clause-spools g c =
    let loop = c.loop-k in
    let old : List WorkerValue = c.args.workers.now.items in
    let past : length old ≤ loop.k = omega (arith, c.loop-k-test.false, c.len-k-end.ensures, c.args.workers.now.ok) in
    all_home old loop.workers.items loop.k _ _ (omega (arith, past, loop.invariant.many)) past loop.invariant.so_far loop.invariant.all

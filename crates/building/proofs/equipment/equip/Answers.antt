use Rattle.std.proofs.Common.{◌≡◌, ◌∙◌, ◌*◌, ◌++◌, ◌∷◌, [], List, All, false, length, map, ap, sym, subst, arith}
use Rattle.std.proofs.lemmas.List.{length_push}
use Rattle.std.proofs.lemmas.List.Elements.{All-drop, All-push, All-rest}
use Rattle.std.specs.Vec.Iter.{into_iter_items}
use Rattle.page_workers.specs.WorkerValue.{WorkerValue}
use Rattle.building.specs.Equipped.{HasOwnSpools, HasRoomFor, IsFresh, IsNewMaker}
use Rattle.building.specs.Keeping.{AreWorkers}
use Rattle.building.proofs.Equipping.{enough_left, one_made, workers_more}
use Rattle.building.proofs.equipment.equip.Goals as goal

pub loop-it-preserved : goal.loop-it-preserved
loop-it-preserved g c =
    let inv = c.loop-it.invariant in
    let added = c.add_one.ensures in
    let more = added.more in
    let it = c.in-Some.it in
    let others = c.next.new.self.rest.items in
    let step : c.loop-it.it-iterator.rest.items ≡ it ∷ others = c.in-Some.ensures.steps.0 in
    let workers : List WorkerValue = c.loop-it.workers.items in
    let spools = into_iter_items c.loop-it.rest in
    let work = c.args.work.now in
    let indexes = length work.specs in
    record {
      intakes = added.intakes ∙ inv.intakes;
      many = omega (arith, ap length more.last, length_push workers more.worker, ap length step, inv.many);
      makers =
          ap (λ (ws : List WorkerValue). map (λ (w : WorkerValue). w.maker) ws ++ map (λ it. it.maker) others) more.last
          ∙ one_made (λ (w : WorkerValue). w.maker) (λ it. it.maker) workers more.worker it others more.made
          ∙ ap (λ its. map (λ (w : WorkerValue). w.maker) workers ++ map (λ it. it.maker) its) (sym step)
          ∙ inv.makers;
      kinds = All-rest (λ it. IsNewMaker work.specs it.maker) it others _ step inv.kinds;
      rooms = All-rest (λ it. HasRoomFor indexes it.spools) it others _ step inv.rooms;
      lent = added.lent ∙ inv.lent;
      left = ap length added.rest ∙ enough_left indexes (length others) spools (inv.left ∙ ap (λ its. length its * indexes) step);
      empty = subst (All (λ spool. (g.S.Spool.runs spool ≡ []) × (g.S.Spool.open_run spool ≡ []))) (sym added.rest)
          (All-drop (λ spool. (g.S.Spool.runs spool ≡ []) × (g.S.Spool.open_run spool ≡ [])) indexes spools inv.empty);
      fresh = subst (All (IsFresh work.build)) (sym added.idle) (All-drop (IsFresh work.build) 1 c.loop-it.idle.items inv.fresh);
      idle_room = added.idle_room ∙ inv.idle_room;
      room = added.room ∙ inv.room;
      own = subst (All (HasOwnSpools work.specs)) (sym more.last) (All-push (HasOwnSpools work.specs) workers more.worker inv.own more.own);
      workers = subst (AreWorkers work.build work.specs false) (sym more.last) (workers_more work.build work.specs workers more.worker inv.workers more.at);
    }

use Rattle.std.proofs.Common.{◌≡◌, ◌+◌, ◌*◌, ◌++◌, [], All, false, map, length, vec_capacity}
use Rattle.std.specs.Vec.Iter.{into_iter_items}
use Rattle.page_workers.specs.SpoolValue.{spool_value}
use Rattle.page_workers.specs.WorkerValue.{WorkerValue}
use Rattle.building.specs.BuildingValue.{intakes}
use Rattle.building.specs.Equipped.{HasOwnSpools, HasRoomFor, IsFresh, IsNewMaker}
use Rattle.building.specs.Keeping.{AreWorkers}
use Rattle.building.specs.Holding.{workers_spools}
use Rattle.building.proofs.equipment.equip.Given as goal

abbrev pub invariant-loop-it : goal.invariant-loop-it
invariant-loop-it g l = record {
  intakes : intakes l.workers.items l.idle.items ≡ l.fn.idle.items;
  many : length l.workers.items + length l.it-iterator.rest.items ≡ length l.fn.equipment.items;
  makers : map (λ (worker : WorkerValue). worker.maker) l.workers.items ++ map (λ it. it.maker) l.it-iterator.rest.items ≡ map (λ it. it.maker) l.fn.equipment.items;
  kinds : All (λ it. IsNewMaker l.work.specs it.maker) l.it-iterator.rest.items;
  rooms : All (λ it. HasRoomFor (length l.work.specs) it.spools) l.it-iterator.rest.items;
  lent : workers_spools l.workers.items ++ map (spool_value g.S.Spool.runs g.S.Spool.open_run g.S.Spool.stake) (into_iter_items l.rest)
      ≡ map (spool_value g.S.Spool.runs g.S.Spool.open_run g.S.Spool.stake) l.fn.spools.items;
  left : length (into_iter_items l.rest) ≡ length l.it-iterator.rest.items * length l.work.specs;
  empty : All (λ spool. (g.S.Spool.runs spool ≡ []) × (g.S.Spool.open_run spool ≡ [])) (into_iter_items l.rest);
  fresh : All (IsFresh l.work.build) l.idle.items;
  idle_room : vec_capacity l.idle ≡ vec_capacity l.fn.idle;
  room : vec_capacity l.workers ≡ vec_capacity l.fn.workers;
  own : All (HasOwnSpools l.work.specs) l.workers.items;
  workers : AreWorkers l.work.build l.work.specs false l.workers.items;
}

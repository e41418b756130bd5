use Rattle.std.proofs.Common.{◌≡◌, map, take, drop, length, vec_capacity}
use Rattle.page_workers.specs.SpoolValue.{spool_value}
use Rattle.building.specs.Holding.{all_spools}
use Rattle.building.specs.Working.{handed_over}
use Rattle.building.proofs.returning.bring_home.Given as goal

abbrev pub invariant-loop-k : goal.invariant-loop-k
invariant-loop-k g l = record {
  all : all_spools l.workers.items (map (spool_value g.S.Spool.runs g.S.Spool.open_run g.S.Spool.stake) l.spools.items)
      ≡ all_spools l.fn.workers.items (map (spool_value g.S.Spool.runs g.S.Spool.open_run g.S.Spool.stake) l.fn.spools.items);
  so_far : take l.k l.workers.items ≡ map handed_over (take l.k l.fn.workers.items);
  rest : drop l.k l.workers.items ≡ drop l.k l.fn.workers.items;
  many : length l.workers.items ≡ length l.fn.workers.items;
  room : vec_capacity l.spools ≡ vec_capacity l.fn.spools;
}

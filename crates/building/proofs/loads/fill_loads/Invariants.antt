use Rattle.std.proofs.Common.{◌≡◌, ℕ, ◌+◌, ◌-◌, ◌*◌, ◌<◌, ◌≤◌, All, Some, length, map, vec_capacity}
use Rattle.std.specs.List.{slice_get}
use Rattle.page_workers.specs.SpoolValue.{spool_value}
use Rattle.index_load.specs.Columns.{column}
use Rattle.building.specs.Equipped.{HasRoomFor}
use Rattle.building.specs.IndexLoads.{load_at}
use Rattle.building.proofs.loads.fill_loads.Given as goal

abbrev pub invariant-loop-index : goal.invariant-loop-index
invariant-loop-index g l =
    let value = spool_value g.S.Spool.runs g.S.Spool.open_run g.S.Spool.stake in
    record {
      counted : l.count ≡ length l.work.specs;
      rooms : length l.rooms.items + l.index ≡ l.count;
      empty : All (HasRoomFor l.workers) l.rooms.items;
      many : length l.loads.items ≡ l.index;
      places : l.count ≤ vec_capacity l.loads;
      left : length l.spools.items ≡ l.workers * (l.count - l.index);
      columns : (j : ℕ) → j < l.count - l.index → column j (l.count - l.index) l.spools.items ≡ column (l.index + j) l.count l.fn.spools.items;
      loads : (i : ℕ) → i < l.index → slice_get l.loads.items i ≡ Some (load_at l.work (map value l.fn.spools.items) i);
      capacity : vec_capacity l.spools ≡ vec_capacity l.fn.spools;
    }

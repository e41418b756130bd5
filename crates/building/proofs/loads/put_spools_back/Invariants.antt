use Rattle.std.proofs.Common.{◌≡◌, ℕ, ◌+◌, ◌-◌, ◌*◌, ◌<◌, ◌≤◌, ◌++◌, Some, length, map, take, drop, vec_capacity}
use Rattle.std.specs.List.{slice_get}
use Rattle.page_workers.specs.SpoolValue.{spool_value}
use Rattle.index_load.specs.Columns.{column}
use Rattle.index_load.specs.IndexLoad.{IndexLoadValue, without_spools}
use Rattle.building.proofs.loads.put_spools_back.Given as goal

abbrev pub invariant-loop-back : goal.invariant-loop-back
invariant-loop-back g l =
    let value = spool_value g.S.Spool.runs g.S.Spool.open_run g.S.Spool.stake in
    let left = length l.fn.loads - l.back in
    record {
      counted : l.count ≡ length l.fn.loads;
      many : length l.spools.items ≡ l.workers * l.back;
      columns : (j : ℕ) (load : IndexLoadValue) → j < l.back → slice_get l.fn.loads (left + j) ≡ Some load
          → column j l.back (map value l.spools.items) ≡ load.spools;
      loads : l.loads ≡ take left l.fn.loads ++ map without_spools (drop left l.fn.loads);
      room : l.workers * length l.fn.loads ≤ vec_capacity l.spools;
      capacity : vec_capacity l.fn.spools ≤ vec_capacity l.spools;
    }

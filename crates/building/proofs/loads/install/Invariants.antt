use Rattle.std.proofs.Common.{◌≡◌, ◌++◌, length, map, take, drop}
use Rattle.building.specs.IndexLoads.{index_from}
use Rattle.building.proofs.loads.install.Given as goal

abbrev pub invariant-loop-load : goal.invariant-loop-load
invariant-loop-load g l =
    let left = length l.loads.items in
    record {
      before : l.loads.items ≡ take left l.fn.loads.items;
      done : l.indexes.items ≡ take left l.fn.indexes.items ++ map index_from (drop left l.fn.loads.items);
      many : length l.indexes.items ≡ length l.fn.loads.items;
    }

abbrev pub decreases-loop-load : goal.decreases-loop-load
decreases-loop-load g l = length l.loads.items

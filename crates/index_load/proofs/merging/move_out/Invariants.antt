use Rattle.std.proofs.Common.{◌≡◌, ◌+◌, ◌-◌, ◌*◌, ◌≤◌, ◌++◌, length, vec_capacity}
use Rattle.index_load.specs.Columns.{every, all_but, column, other_columns}
use Rattle.index_load.proofs.merging.move_out.Given as goal

abbrev pub invariant-loop-worker : goal.invariant-loop-worker
invariant-loop-worker g l =
    let place = l.worker * (l.indexes - 1) + l.index in
    record {
      own : l.own.items ++ every (l.indexes - 1) place l.spools.items ≡ column l.index l.indexes l.fn.spools.items;
      others : all_but (l.indexes - 1) place l.spools.items ≡ other_columns l.index l.indexes l.fn.spools.items;
      many : length l.own.items ≡ l.worker;
      left : length l.spools.items + l.worker ≡ l.workers * l.indexes;
      room : l.workers ≤ vec_capacity l.own;
      kept : l.workers * l.indexes ≤ vec_capacity l.spools;
      same : vec_capacity l.spools ≡ vec_capacity l.fn.spools;
    }

use Rattle.std.proofs.Common.{◌≡◌, ◌+◌, ◌-◌, ◌*◌, ◌≤◌, ◌++◌, length, vec_capacity}
use Rattle.index_load.specs.Columns.{every, all_but}
use Rattle.index_load.proofs.merging.put_back.Given as goal

abbrev pub invariant-loop-spool : goal.invariant-loop-spool
invariant-loop-spool g l =
    let place = length l.own.items * (l.indexes - 1) + l.index in
    record {
      own : l.own.items ++ every (l.indexes - 1) place l.spools.items ≡ l.fn.own.items;
      others : all_but (l.indexes - 1) place l.spools.items ≡ l.fn.spools.items;
      few : length l.own.items ≤ l.workers;
      left : length l.spools.items + length l.own.items ≡ l.workers * l.indexes;
      room : l.workers * l.indexes ≤ vec_capacity l.spools;
      grown : vec_capacity l.fn.spools ≤ vec_capacity l.spools;
    }

abbrev pub decreases-loop-spool : goal.decreases-loop-spool
decreases-loop-spool g l = length l.own.items

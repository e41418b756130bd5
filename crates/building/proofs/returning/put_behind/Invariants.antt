use Rattle.std.proofs.Common.{◌≡◌, ◌++◌, vec_capacity}
use Rattle.building.proofs.returning.put_behind.Given as goal

abbrev pub invariant-loop-spool : goal.invariant-loop-spool
invariant-loop-spool g l = record {
  all : l.spools.items ++ l.spool-iterator.rest.items ≡ l.fn.spools.items ++ l.fn.own.items;
  room : vec_capacity l.spools ≡ vec_capacity l.fn.spools;
}

use Rattle.std.proofs.Common.{◌≡◌, ◌≤◌, replicate, vec_len, vec_capacity}
use Rattle.leased_core.proofs.leases.quotas.Given as goal

abbrev pub invariant-loop : goal.invariant-loop
invariant-loop l = record {
  made : l.quotas.items ≡ replicate l.counter l.quota;
  count : vec_len l.quotas ≡ l.counter;
  room : l.count ≤ vec_capacity l.quotas;
}

use Rattle.std.proofs.Common.{◌≡◌, ◌≤◌, map, take, length, vec_len, vec_capacity}
use Rattle.spool_ledger.specs.Accounts.{unfilled}
use Rattle.spool_ledger.proofs.pool.accounts_with_room.Given as goal

abbrev pub invariant-loop-quota : goal.invariant-loop-quota
invariant-loop-quota l = record {
  made : l.accounts.items ≡ map (unfilled l.number) (take l.quota-index l.quotas);
  count : vec_len l.accounts ≡ l.quota-index;
  room : length l.quotas ≤ vec_capacity l.accounts;
}

use Rattle.std.proofs.Common.{◌≡◌, ◌+◌, ◌++◌, map, take, drop, vec_len, vec_capacity}
use Rattle.std.specs.List.{sum_by}
use Rattle.spool_ledger.specs.Accounts.{leased, filled}
use Rattle.spool_ledger.proofs.pool.fill_all.Given as goal

abbrev pub invariant-loop-account : goal.invariant-loop-account
invariant-loop-account l = record {
  filled : l.accounts ≡ map filled (take l.account-index l.initial.accounts) ++ drop l.account-index l.initial.accounts;
  taken : vec_len l.pages + sum_by leased l.initial.accounts ≡ vec_len l.initial.pages + sum_by leased (drop l.account-index l.initial.accounts);
  room : vec_capacity l.pages ≡ vec_capacity l.initial.pages;
}

use Rattle.std.proofs.Common.{◌≡◌, ◌+◌, ◌≤◌, vec_len, vec_capacity}
use Rattle.spool_ledger.proofs.account.Account.fill.Given as goal

abbrev pub invariant-loop : goal.invariant-loop
invariant-loop l = record {
  pool : l.self-inside.pool ≡ l.initial.self-inside.pool;
  quota : l.self-inside.quota ≡ l.initial.self-inside.quota;
  end : l.end ≡ l.self-inside.quota;
  count : vec_len l.self-inside.free ≡ l.counter;
  within : l.counter ≤ l.self-inside.quota;
  fits : l.self-inside.quota ≤ vec_capacity l.self-inside.free;
  taken : vec_len l.pages + l.counter ≡ vec_len l.initial.pages + vec_len l.initial.self-inside.free;
  enough : l.self-inside.quota ≤ vec_len l.initial.pages + vec_len l.initial.self-inside.free;
  room : vec_capacity l.pages ≡ vec_capacity l.initial.pages;
}

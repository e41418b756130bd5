use Rattle.std.proofs.Common.{◌≡◌, ◌+◌, ◌≤◌, All, vec_len, vec_capacity}
use Rattle.std.specs.List.{sum_by}
use Rattle.std.specs.Vec.Iter.{into_iter_items}
use Rattle.spool_ledger.specs.Accounts.{IsWhole, leased}
use Rattle.spool_ledger.specs.Pools.{quota_of, free_of}
use Rattle.spool_ledger.proofs.pool.Pool.reclaim.Given as goal

abbrev pub invariant-loop-account : goal.invariant-loop-account
invariant-loop-account l = record {
  next : goal.iterator-loop-account.can_next l.account-iterator;
  finite : goal.iterator-loop-account.is_finite l.account-iterator;
  number : l.self-inside.number ≡ l.initial.self-inside.number;
  quotas : sum_by quota_of (into_iter_items l.account-iterator) ≤ l.self-inside.out;
  counted : l.missing + sum_by quota_of (into_iter_items l.account-iterator) ≤ l.initial.self-inside.out;
  missing : l.missing + sum_by leased (into_iter_items l.account-iterator) ≡ sum_by leased l.fn.accounts.items;
  whole : l.missing ≡ 0 → All IsWhole (into_iter_items l.account-iterator) → All IsWhole l.fn.accounts.items;
  free :
      vec_len l.self-inside.pages + sum_by free_of (into_iter_items l.account-iterator)
      ≡ vec_len l.initial.self-inside.pages + sum_by free_of l.fn.accounts.items;
  out : l.self-inside.out + sum_by free_of l.fn.accounts.items ≡ l.initial.self-inside.out + sum_by free_of (into_iter_items l.account-iterator);
  room : vec_len l.self-inside.pages + l.self-inside.out ≤ vec_capacity l.self-inside.pages;
}

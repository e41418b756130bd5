use Rattle.std.proofs.Common.{◌≡◌, ◌+◌, sum, take, vec_len}
use Rattle.spool_ledger.proofs.pool.Pool.split.Given as goal

abbrev pub invariant-loop-quota : goal.invariant-loop-quota
invariant-loop-quota l = l.left + sum (take l.quota-index l.quotas) ≡ vec_len l.self-inside.pages

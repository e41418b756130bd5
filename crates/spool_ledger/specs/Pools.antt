-- What a pool stands for.
use Rattle.std.specs.Prelude.{◌≡◌, ℕ, ◌+◌, ◌-◌, nat_lt, if◌then◌else◌, List, map, sum, Vec, Option, Some, None}
use Rattle.std.specs.List.{sum_by}
use Rattle.std.specs.declared.alloc.Global.{Global}
use Rattle.keybytes.specs.declared.fault.Fault.{Fault}
use Rattle.keybytes.specs.declared.fault.Fault.TheVariants.{BadCount}
use Rattle.spool_ledger.specs.Accounts.{AccountValue, new_account}

-- the pages of the pool with a number: `free` are here, `out` stand in accounts
pub record PoolValue : Type 0 where
  pub number : ℕ
  pub free : ℕ
  pub out : ℕ

abbrev pub new_pool : ℕ → ℕ → PoolValue
new_pool number pages = record { number = number; free = pages; out = 0 }

-- the pool has fewer free pages than the quotas together
abbrev pub split_refusal : PoolValue → List ℕ → Option Fault
split_refusal pool quotas = if nat_lt pool.free (sum quotas) then Some BadCount else None

-- that many pages go from here into accounts
abbrev pub with_out : PoolValue → ℕ → PoolValue
with_out pool pages = record { number = pool.number; free = pool.free - pages; out = pool.out + pages }

-- an account for each quota, in order, with all its pages
pub record Splits (quotas : List ℕ) (old : PoolValue) (accounts : Vec AccountValue Global) (new : PoolValue) : Type 0 where
  pub each : accounts.items ≡ map (new_account old.number) quotas
  pub out : new ≡ with_out old (sum quotas)

abbrev pub quota_of : AccountValue → ℕ
quota_of account = account.quota

abbrev pub free_of : AccountValue → ℕ
free_of account = account.free

-- that many pages come back from accounts
abbrev pub with_back : PoolValue → ℕ → PoolValue
with_back pool pages = record { number = pool.number; free = pool.free + pages; out = pool.out - pages }

-- the free pages of the accounts are here again
abbrev pub after_reclaim : PoolValue → List AccountValue → PoolValue
after_reclaim pool accounts = with_back pool (sum_by free_of accounts)

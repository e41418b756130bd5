-- What an account stands for.
use Rattle.std.specs.Prelude.{◌≡◌, ℕ, ◌-◌, ◌≤◌}
use Rattle.spool_ledger.specs.declared.kind.SpoolKind.{SpoolKind}

-- pages of the pool with a number: `free` of `quota` aren't leased
pub record AccountValue : Type 0 where
  pub pool : ℕ
  pub quota : ℕ
  pub free : ℕ

-- whose pages they are, and how many: what no lease changes
pub record Share : Type 0 where
  pub pool : ℕ
  pub quota : ℕ

abbrev pub share_of : AccountValue → Share
share_of account = record { pool = account.pool; quota = account.quota }

-- what stands behind a spool: how it keeps its pairs, and whose pages it keeps them on, and how many
pub record Stake : Type 0 where
  pub kind : SpoolKind
  pub share : Share

abbrev pub stake_of : SpoolKind → AccountValue → Stake
stake_of kind account = record { kind = kind; share = share_of account }

-- whose pages stand behind a spool, and how many
abbrev pub share_in : Stake → Share
share_in stake = stake.share

-- how many pages are leased
abbrev pub leased : AccountValue → ℕ
leased account = account.quota - account.free

-- each page of the account is free
abbrev pub IsWhole : AccountValue → Type 0
IsWhole account = account.free ≡ account.quota

abbrev pub new_account : ℕ → ℕ → AccountValue
new_account pool quota = record { pool = pool; quota = quota; free = quota }

-- the account with another number of free pages
abbrev pub with_free : AccountValue → ℕ → AccountValue
with_free account free = record { pool = account.pool; quota = account.quota; free = free }

-- an account that has none of its pages yet
abbrev pub unfilled : ℕ → ℕ → AccountValue
unfilled pool quota = with_free (new_account pool quota) 0

-- the account with all its pages
abbrev pub filled : AccountValue → AccountValue
filled account = with_free account account.quota

-- what an account keeps: never more pages than its quota, and room for each of them
pub record IsAccount (quota free room : ℕ) : Type 0 where
  pub within : free ≤ quota
  pub fits : quota ≤ room

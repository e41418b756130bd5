-- A spool that keeps its runs in lists.
use Rattle.std.specs.Prelude.{◌≡◌, ◌⊎◌, ℕ, ◌+◌, ◌≤◌, ◌<◌, List, [], All, length, Vec, vec_capacity}
use Rattle.std.specs.declared.alloc.Global.{Global}
use Rattle.keybytes.specs.declared.pair.Pair.{Pair}

-- the closed runs and the open one, how many pairs a run may have, and how many lists there are for further runs
pub record ListSpoolValue : Type 0 where
  pub runs : List (List Pair)
  pub open_run : List Pair
  pub limit : ℕ
  pub spare : ℕ

abbrev pub new_list : ℕ → ℕ → ListSpoolValue
new_list runs limit = record { runs = []; open_run = []; limit = limit; spare = runs }

-- behind an open run with a pair there is a list for the next, and it has no room for one more: it has as many as it may, or there is no list
abbrev pub IsFullList : ListSpoolValue → Type 0
IsFullList spool = (0 < length spool.open_run → 0 < spool.spare) × ((spool.limit ≤ length spool.open_run) ⊎ (spool.spare ≡ 0))

-- a list for a run that is still to come
abbrev pub IsSpare : ℕ → Vec Pair Global → Type 0
IsSpare limit list = (list.items ≡ []) × (limit ≤ vec_capacity list)

-- the fields of such a spool: each list has room for a run, the runs have room for all lists, and behind an open run with a pair there
-- is a list for the next
pub record IsListSpool (limit runs places open_len open_room : ℕ) (spare : List (Vec Pair Global)) : Type 0 where
  pub each : All (IsSpare limit) spare
  pub open_fits : limit ≤ open_room
  pub fits : runs + length spare ≤ places
  pub next : 0 < open_len → 0 < length spare

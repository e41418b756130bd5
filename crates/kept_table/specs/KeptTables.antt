-- A table that is kept without a name, with what the newest switch decided and how many entries wait.
use Rattle.std.specs.Prelude.{ℕ, List, [], Option, Some, None}
use Rattle.keybytes.specs.Keys.{KeySpecValue}
use Rattle.heap_log.specs.declared.outcome.Outcome.{Outcome}
use Rattle.heap_table.specs.HeapState.{HeapState, empty_heap}
use Rattle.build_events.specs.CoreState.{CoreState, opening}
use Rattle.live_lemmas.specs.Builds.{UnnamedValue}
use Rattle.leased_core.specs.Leasing.{no_spools}

-- what a switch decided: what makes the keys of each index of its build, and what became of it
pub record DecidedValue : Type 0 where
  pub specs : List KeySpecValue
  pub verdicts : List Outcome

-- a table with its builds; what the newest switch decided, if one did; and how many entries of each index waited behind the last piece that caught up
-- of the build that runs, if one did
pub record KeptValue : Type 0 where
  pub core : CoreState
  pub decided : Option DecidedValue
  pub waited : Option (List ℕ)

-- a table over these rows, with no index and no build, and no spools beside it
abbrev pub new_table : HeapState → CoreState
new_table heap = opening (record { heap = heap; ready = []; builds = 0; build = None }) no_spools

-- the table in its place; one without columns where there is none, as is so for the time of a call alone
abbrev pub table_in : Option UnnamedValue → CoreState
table_in None = new_table (empty_heap [] 0 0)
table_in (Some table) = table.core

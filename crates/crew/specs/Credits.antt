-- What sessions may write beside a build that catches up.
use Rattle.std.specs.Prelude.{◌≡◌, ◌⊎◌, ℕ, ◌+◌, ◌*◌, ◌^◌, ◌<◌, ◌≤◌, List, length, Option, Some, None}
use Rattle.build_events.specs.BuildSteps.{OnBuild}
use Rattle.build_events.specs.CoreState.{BuildState, LiveState}
use Rattle.side_file.specs.Ends.{PutEnd}
use Rattle.side_file.specs.declared.entry.Entry.{Entry}
use Rattle.page_workers.specs.declared.copied.Copied.{Copied}
use Rattle.building.specs.BuildingValue.{BuildingValue}
use Rattle.live_lemmas.specs.Builds.{LiveValue, StandsBeside, core_state}
use Rattle.live_lemmas.specs.Settling.{IsSettled, waiting_in}
use Rattle.crew.specs.declared.locked.credit.Credit.{Credit}
use Rattle.crew.specs.declared.online_build.report.CaughtUp.{CaughtUp}

-- A table behind its lock: what it is by itself, and what credit sessions have, where a build catches up
pub record LockedValue : Type 0 where
  pub state : LiveState
  pub pages : List (PutEnd Copied)
  pub sides : List (PutEnd Entry)
  pub credit : Option Credit

-- the table with that credit
abbrev pub locked_with : LiveValue → Option Credit → LockedValue
locked_with live credit = record { state = live.state; pages = live.pages; sides = live.sides; credit = credit }

-- and without it
abbrev pub live_in : LockedValue → LiveValue
live_in locked = record { state = locked.state; pages = locked.pages; sides = locked.sides }

-- what stands beside the table is of its build, of which all that was fed to each of its few indexes is applied
pub record IsSettledBeside (locked : LockedValue) (building : BuildingValue) : Type 0 where
  pub works : StandsBeside (live_in locked) building
  pub settled : IsSettled (core_state (live_in locked) building)
  pub few : OnBuild locked.state.build (λ b. length b.specs ≤ 8)

-- how many indexes the build has, if one runs
abbrev pub indexes_of_build : Option BuildState → ℕ
indexes_of_build None = 0
indexes_of_build (Some b) = length b.specs

-- None is lost: what waits and what was taken is what waited first and what sessions appended since. Unless fewer than 512 waited before the last write,
-- which adds two entries an index at the most, they appended at most half as many as the build told to be applied, and 512; it told no more than it
-- took. Each turn took 1,025 at least, and when it did more than 1,024 waited, so that there are few turns by what waited first
pub record KeepsCredit (waiting indexes records : ℕ) (credit : Credit) : Type 0 where
  pub appended : ℕ
  pub counted : waiting + credit.taken ≡ credit.first + appended
  pub paced : (waiting < 512 + 2 * indexes) ⊎ (2 * appended ≤ 1024 + credit.applied)
  pub applied : credit.applied ≤ credit.taken
  pub small : credit.first < 2 ^ 63
  pub first : credit.first ≤ indexes * (2 * records)
  pub turns : 1025 * credit.turns ≤ credit.taken
  pub bounded : 1025 * credit.turns ≤ 2 * credit.first

-- a session may write: fewer than 512 entries wait, or there is credit for all that a write may append
pub record MayWrite (waiting indexes records : ℕ) (credit : Credit) : Type 0 where
  pub kept : KeepsCredit waiting indexes records credit
  pub may : (waiting < 512) ⊎ (2 * (kept.appended + 2 * indexes) ≤ 1024 + credit.applied)

-- what holds of the credit, if there is one, whenever the lock is free
abbrev pub CreditIsKept : LiveState → Option Credit → Type 0
CreditIsKept live None = Unit {0}
CreditIsKept live (Some credit) = KeepsCredit (waiting_in live) (indexes_of_build live.build) (length live.heap.log) credit

-- a session may write to that table
abbrev pub WriteHasCredit : LiveState → Option Credit → Type 0
WriteHasCredit live None = Unit {0}
WriteHasCredit live (Some credit) = MayWrite (waiting_in live) (indexes_of_build live.build) (length live.heap.log) credit

-- it is the credit that the build knows, of which more may have been applied since
pub record IsKnown (known credit : Credit) : Type 0 where
  pub first : credit.first ≡ known.first
  pub taken : credit.taken ≡ known.taken
  pub turns : credit.turns ≡ known.turns

-- a build that knows that credit has it
abbrev pub HasKnown : Credit → Option Credit → Type 0
HasKnown known None = ⊥
HasKnown known (Some credit) = IsKnown known credit

-- a turn took more entries than a switch takes, where more than these waited: then what was taken before is less than twice what waited at first
pub record TakesMore (old new : Credit) : Type 0 where
  pub first : new.first ≡ old.first
  pub more : old.taken + 1025 ≤ new.taken
  pub bounded : old.taken + 1026 ≤ 2 * old.first
  pub turns : new.turns ≡ old.turns + 1

-- what the credit tells of how its build caught up
abbrev pub caught_up_by : Credit → CaughtUp
caught_up_by credit = record { waited = credit.first; turns = credit.turns }

-- What is told of how a build of so many indexes caught up over a log of so many records: two entries for each of both waited at most when it began,
-- and each of its turns took 1,025 of less than twice as many
pub record IsBounded (indexes records : ℕ) (caught_up : CaughtUp) : Type 0 where
  pub waited : caught_up.waited ≤ indexes * (2 * records)
  pub turns : 1025 * caught_up.turns ≤ 2 * caught_up.waited

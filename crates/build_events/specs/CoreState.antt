-- A table, its ready indexes and the build that runs, as callers see them: what a lock has to keep, and beside it what the workers of
-- the build do and the spools that they have.
use Rattle.std.specs.Prelude.{ℕ, zero, suc, Bool, false, List, [], Option, None, Some}
use Rattle.spool_ledger.specs.Accounts.{Stake}
use Rattle.keybytes.specs.Keys.{KeySpecValue}
use Rattle.keybytes.specs.declared.fault.Fault.{Fault}
use Rattle.heap_table.specs.HeapState.{HeapState, after_visit, after_fence}
use Rattle.ready_indexes.specs.Indexes.{ReadyValue, FollowTable}
use Rattle.build_events.specs.Scanning.{Scanning}
use Rattle.build_events.specs.declared.scan.Scan.{Scan}

-- a running build as the table knows it
pub record BuildState : Type 0 where
  -- its number, from 1
  pub number : ℕ
  -- what makes the keys of its indexes
  pub specs : List KeySpecValue
  -- how many records the log had when it started, and how many pages the table
  pub opened : ℕ
  pub pages : ℕ
  -- the page behind each of its ranges
  pub ends : List ℕ
  -- how many workers it has
  pub workers : ℕ
  -- the pages that were copied since, in that order
  pub scans : List Scan
  -- how many entries of each index's side-file went into its ring
  pub fed : List ℕ

-- what a build has read of the table, for one of its indexes
abbrev pub scanning_of : BuildState → KeySpecValue → Scanning
scanning_of b spec = record { spec = spec; opened = b.opened; pages = b.pages; scans = b.scans }

-- a table with its ready indexes, the number of builds that ever started, and the one that runs
pub record LiveState : Type 0 where
  pub heap : HeapState
  pub ready : List ReadyValue
  pub builds : ℕ
  pub build : Option BuildState

-- a worker: how many it took of the copies that were put for it, and how many these were when it last sealed
pub record WorkerState : Type 0 where
  pub taken : ℕ
  pub sealed : ℕ

-- an index of the build: whether its pairs are in order, and how many entries of its side-file were applied to them since
pub record IndexState : Type 0 where
  pub loaded : Bool
  pub applied : ℕ

-- what the workers of a build have done, and why it can't go on
pub record WorkState : Type 0 where
  pub workers : List WorkerState
  pub indexes : List IndexState
  pub spoiled : Option Fault

-- no build is at work
abbrev pub idle : WorkState
idle = record { workers = []; indexes = []; spoiled = None }

-- the build can't go on for that fault, and what its workers did doesn't count any more; entries may still wait in a ring
abbrev pub spoiled_work : Fault → WorkState → WorkState
spoiled_work fault work = record { workers = []; indexes = work.indexes; spoiled = Some fault }

-- the spools beside a table: what stands behind each, if there is an account, and of those that are left for the next
-- start, whether each is empty
pub record SpoolsState : Type 0 where
  pub stakes : List (Option Stake)
  pub left : List Bool

-- a build has them, so that none is left for a next start
abbrev pub all_given : SpoolsState → SpoolsState
all_given spools = record spools { left = [] }

-- a table, the work on its build, and the spools for its pairs
pub record CoreState : Type 0 where
  pub live : LiveState
  pub work : WorkState
  pub spools : SpoolsState

-- the same with that heap
abbrev pub live_with_heap : LiveState → HeapState → LiveState
live_with_heap live heap = record live { heap = heap }

-- the same with that table
abbrev pub with_live : CoreState → LiveState → CoreState
with_live s live = record s { live = live }

-- the same with that heap
abbrev pub with_heap : CoreState → HeapState → CoreState
with_heap s heap = with_live s (live_with_heap s.live heap)

-- the table without that build, if one runs: transactions may begin again then
abbrev pub without : Option BuildState → LiveState → LiveState
without None live = live
without (Some b) live = record live { heap = after_fence false live.heap; build = None }

-- the table once the build that may run is given up
abbrev pub abandoned : LiveState → LiveState
abandoned live = without live.build live

-- no build runs any more
abbrev pub opening : LiveState → SpoolsState → CoreState
opening live spools = record { live = abandoned live; work = idle; spools = spools }

-- the table once rows were given out that many times more
abbrev pub after_visits : HeapState → ℕ → HeapState
after_visits heap zero = heap
after_visits heap (suc n) = after_visit (after_visits heap n)

-- the ready indexes follow the table
abbrev pub ReadyFollowTable : LiveState → Type 0
ReadyFollowTable live = FollowTable live.heap.log live.ready

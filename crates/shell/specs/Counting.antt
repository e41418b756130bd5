-- What an answer leaves of the counts of a build and of the open transactions.
use Rattle.std.specs.Prelude.{ℕ, ◌+◌, ◌-◌, ◌^◌, ◌==◌, min, Bool, true, false, ◌&&◌, if◌then◌else◌, List, get_or, set, replicate, vec_len}
use Rattle.std.specs.Prelude.{Option, Some, None}
use Rattle.keybytes.specs.declared.fault.Fault.{Fault}
use Rattle.keybytes.specs.declared.fault.Fault.TheVariants as fault
use Rattle.replay.specs.declared.answer.Answer.{Answer}
use Rattle.replay.specs.declared.answer.Answer.TheVariants as answer
use Rattle.script.specs.declared.command.Command.{Command}
use Rattle.script.specs.declared.command.Command.TheVariants as command
use Rattle.shell.specs.declared.asked.Asked.{Asked}
use Rattle.shell.specs.declared.asked.Asked.TheVariants.{Begin, Undo, Commit, Start, Scan, Digest, Seal, Load, Feed, Apply, Other}
use Rattle.shell.specs.declared.build_counts.BuildCounts.{BuildCounts}
use Rattle.shell.specs.declared.counts.Counts.{Counts}
use Rattle.shell.specs.declared.index_counts.IndexCounts.{IndexCounts}
use Rattle.shell.specs.declared.worker_counts.WorkerCounts.{WorkerCounts}

-- what of a command counts
abbrev pub asked_by : Command → Asked
asked_by (command.Begin label) = Begin
asked_by (command.Undo label) = Undo
asked_by (command.Commit label) = Commit
asked_by (command.Start start) = Start start.workers (vec_len start.specs)
asked_by (command.Scan range worker) = Scan worker
asked_by (command.Digest worker) = Digest worker
asked_by (command.Seal worker) = Seal worker
asked_by (command.Load index) = Load index
asked_by (command.Feed index most) = Feed index
asked_by (command.Apply index most) = Apply index
asked_by _ = Other

-- the worker who was asked
abbrev pub worker_asked : Asked → Option ℕ
worker_asked (Scan worker) = Some worker
worker_asked (Digest worker) = Some worker
worker_asked (Seal worker) = Some worker
worker_asked _ = None

-- the index that a command was about
abbrev pub index_asked : Asked → Option ℕ
index_asked (Load index) = Some index
index_asked (Feed index) = Some index
index_asked (Apply index) = Some index
index_asked _ = None

-- so many more, or the most that a count may be
abbrev pub more : ℕ → ℕ → ℕ
more count added = min (count + added) (2 ^ 64 - 1)

-- a worker was put one more copy, took so many more, or took them and sealed
abbrev pub worker_after : WorkerCounts → Asked → ℕ → WorkerCounts
worker_after w (Scan worker) number = record w { put = more w.put 1 }
worker_after w (Digest worker) number = record w { taken = more w.taken number }
worker_after w (Seal worker) number = record w { taken = more w.taken number; sealed = more w.taken number }
worker_after w _ number = w

-- an index was loaded, or so many more of its entries were fed or applied
abbrev pub index_after : IndexCounts → Asked → ℕ → IndexCounts
index_after i (Load index) number = record i { is_loaded = true }
index_after i (Feed index) number = record i { fed = more i.fed number }
index_after i (Apply index) number = record i { applied = more i.applied number }
index_after i _ number = i

-- a scan copied one page more
abbrev pub scanned_after : ℕ → Asked → ℕ
scanned_after scanned (Scan worker) = more scanned 1
scanned_after scanned _ = scanned

-- what was done for a worker, or for an index, for which nothing was done
abbrev pub no_worker : WorkerCounts
no_worker = record { put = 0; taken = 0; sealed = 0 }

abbrev pub no_index : IndexCounts
no_index = record { is_loaded = false; fed = 0; applied = 0 }

-- only the worker who was asked has done more
abbrev pub workers_after : List WorkerCounts → Asked → ℕ → Option ℕ → List WorkerCounts
workers_after workers asked number None = workers
workers_after workers asked number (Some worker) = set workers worker (worker_after (get_or workers worker no_worker) asked number)

-- only for the index that a command was about more was done
abbrev pub indexes_after : List IndexCounts → Asked → ℕ → Option ℕ → List IndexCounts
indexes_after indexes asked number None = indexes
indexes_after indexes asked number (Some index) = set indexes index (index_after (get_or indexes index no_index) asked number)

-- a build that has just started
abbrev pub new_build : ℕ → ℕ → ℕ → BuildCounts
new_build workers indexes pages = record {
  pages = pages;
  scanned = 0;
  workers = workers;
  indexes = indexes;
  each_worker = replicate 16 no_worker;
  each_index = replicate 8 no_index;
  spoiled = None;
}

-- a build of which something was done, so many times
abbrev pub further : BuildCounts → Asked → ℕ → BuildCounts
further build asked number = record build {
  scanned = scanned_after build.scanned asked;
  each_worker = workers_after build.each_worker asked number (worker_asked asked);
  each_index = indexes_after build.each_index asked number (index_asked asked);
}

-- a command that spoils the build where it wants room
abbrev pub may_spoil : Asked → Bool
may_spoil (Digest worker) = true
may_spoil (Seal worker) = true
may_spoil (Load index) = true
may_spoil _ = false

-- a refusal for want of room: of a page or of memory
abbrev pub wants_room : Fault → Bool
wants_room fault.NoPage = true
wants_room fault.Memory = true
wants_room _ = false

-- the first refusal that spoils a build is kept
abbrev pub spoiled_after : Option Fault → Asked → Fault → Option Fault
spoiled_after (Some first) asked fault = Some first
spoiled_after None asked fault = if may_spoil asked && wants_room fault then Some fault else None

-- a build that runs on
abbrev pub build_after : BuildCounts → Asked → Answer → BuildCounts
build_after build asked (answer.Number number) = further build asked number
build_after build asked (answer.Refused fault) = record build { spoiled = spoiled_after build.spoiled asked fault }
build_after build asked _ = build

-- the build that runs: it may have started anew, been decided or been given up
abbrev pub running_after : Option BuildCounts → Asked → Answer → Option BuildCounts
running_after running (Start workers indexes) (answer.Number number) = Some (new_build workers indexes number)
running_after running asked (answer.Switched number verdicts pages) = None
running_after running asked (answer.SomeRefused number verdicts lines pages) = None
running_after running asked (answer.Abandoned pages) = None
running_after None asked _ = None
running_after (Some build) asked answer = Some (build_after build asked answer)

-- of the open transactions one begins, commits, or is undone until nothing of it is left
abbrev pub transactions_after : ℕ → Asked → Answer → ℕ
transactions_after before Begin (answer.Number number) = more before 1
transactions_after before Commit (answer.Number number) = before - 1
transactions_after before Undo (answer.Undone number left) = if left == 0 then before - 1 else before
transactions_after before _ _ = before

-- all counts
abbrev pub counts_after : Counts → Asked → Answer → Counts
counts_after counts asked answer = record counts {
  transactions = transactions_after counts.transactions asked answer;
  build = running_after counts.build asked answer;
}

-- What is so of each build that a kept table runs, and the count of its pages.
use Rattle.std.specs.Prelude.{◌≡◌, ℕ, ◌<◌, ◌≤◌, ◌+◌, min, length, IfSome}
use Rattle.build_events.specs.CoreState.{BuildState, CoreState, WorkState}
use Rattle.build_events.specs.Steps.{IsWorkWant}
use Rattle.build_events.specs.Workers.{fed_to, index_at}
use Rattle.build_events.specs.declared.reply.Reply.{Reply}
use Rattle.build_events.specs.declared.reply.Reply.TheVariants.{Begun, Written, Undone, Committed, Started, Scanned, Digested, Sealed, Loaded, Fed, Applied, Switched, FenceSet, Abandoned, Refused}
use Rattle.kept_table.specs.declared.page_count.PageCount.{PageCount}

-- of each index no more entries were applied than were fed
abbrev pub AreFed : BuildState → WorkState → Type 0
AreFed b work = (index : ℕ) → (index_at work.indexes index).applied ≤ fed_to b index

-- the build has a worker and 1 to 8 indexes, its work is of no more workers and of just as many indexes, only entries that were fed were applied, and
-- only want of a page or of memory has spoiled it
pub record HasItsWork (b : BuildState) (work : WorkState) : Type 0 where
  pub some_workers : 0 < b.workers
  pub some_indexes : 0 < length b.specs
  pub few_indexes : length b.specs ≤ 8
  pub workers : length work.workers ≤ b.workers
  pub indexes : length work.indexes ≡ length b.specs
  pub fed : length b.fed ≡ length b.specs
  pub were_fed : AreFed b work
  pub spoiled : IfSome work.spoiled IsWorkWant

-- that is so of the build that runs, if one does
abbrev pub HasLaws : CoreState → Type 0
HasLaws s = IfSome s.live.build (λ b. HasItsWork b s.work)

-- the count tells how many pages a build reads and how many it has copied, up to what 32 bits hold
pub record IsCounted (count : PageCount) (b : BuildState) : Type 0 where
  pub all : count.all ≡ b.pages
  pub copied : count.copied ≡ min (length b.scans) 4294967295

-- and of the build that runs, if one does
abbrev pub Counts : PageCount → CoreState → Type 0
Counts count s = IfSome s.live.build (IsCounted count)

-- the count once an event was replied so
abbrev pub count_after : PageCount → Reply → PageCount
count_after count (Begun txn) = count
count_after count (Written number rid) = count
count_after count (Undone number left) = count
count_after count (Committed number) = count
count_after count (Started pages) = count
count_after count (Scanned page) = record count { copied = min (count.copied + 1) 4294967295 }
count_after count (Digested images) = count
count_after count (Sealed images) = count
count_after count (Loaded pairs) = count
count_after count (Fed entries) = count
count_after count (Applied entries) = count
count_after count (Switched number verdicts) = count
count_after count FenceSet = count
count_after count Abandoned = count
count_after count (Refused fault) = count

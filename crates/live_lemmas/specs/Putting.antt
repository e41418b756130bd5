-- What a step of a table does to the ends of its rings.
use Rattle.std.specs.Prelude.{◌≡◌, ℕ, ◌+◌, ◌≤◌, List, [], ◌∷◌, ◌++◌, set, MatchOption, Option, None, Some}
use Rattle.std.specs.List.{AllZip, slice_get}
use Rattle.keybytes.specs.Keys.{KeySpecValue}
use Rattle.heap_log.specs.declared.record.LogRec.{LogRec}
use Rattle.side_file.specs.Ends.{PutEnd}
use Rattle.side_file.specs.declared.entry.Entry.{Entry}
use Rattle.side_file.specs.Ends.{PutEndLooked}
use Rattle.page_workers.specs.declared.copied.Copied.{Copied}
use Rattle.build_events.specs.BuildSteps.{OnBuild}
use Rattle.build_events.specs.CoreState.{BuildState}
use Rattle.build_events.specs.Workers.{fed_to, unfed}
use Rattle.live_lemmas.specs.Builds.{LiveValue, next_entries}

-- the ends of its rings are as they were: nothing was put, and none was looked at
pub record KeepsRings (old new : LiveValue) : Type 0 where
  pub pages : new.pages ≡ old.pages
  pub sides : new.sides ≡ old.sides

-- the ends that put copies of pages were looked at only, and those that put entries are as they were
pub record PagesAreLooked (old new : LiveValue) : Type 0 where
  pub pages : AllZip PutEndLooked old.pages new.pages
  pub sides : new.sides ≡ old.sides

-- the entries of an index that come next after those that were fed, so many; none where the build has no such index
abbrev pub next_of : BuildState → List LogRec → ℕ → Option KeySpecValue → ℕ → List Entry
next_of b log index None count = []
next_of b log index (Some spec) count = next_entries b log index spec count

-- an end was sent so many entries of its index of the build, those that come next, and nothing else
pub record IsSentNext (b : BuildState) (log : List LogRec) (index count : ℕ) (old new : PutEnd Entry) : Type 0 where
  pub ring : new.ring ≡ old.ring
  pub capacity : new.capacity ≡ old.capacity
  pub sent : new.sent ≡ old.sent ++ next_of b log index (slice_get b.specs index) count

-- so is the end of each side-file's ring
abbrev pub AreSentNext : BuildState → List LogRec → List (PutEnd Entry) → List (PutEnd Entry) → Type 0
AreSentNext b log olds news =
    (index : ℕ) (old : PutEnd Entry) → slice_get olds index ≡ Some old
    → (new : PutEnd Entry) × (slice_get news index ≡ Some new) × (count : ℕ) × IsSentNext b log index count old new

-- the rings of side-files were sent what comes next of the build that runs, and nothing where none runs
abbrev pub SendsNext : LiveValue → List (PutEnd Entry) → Type 0
SendsNext live news = MatchOption live.state.build (AllZip PutEndLooked live.sides news) (λ b. AreSentNext b live.state.heap.log live.sides news)

-- the end of each side-file's ring was sent all that was left of its index of the build
abbrev pub AreSentAll : BuildState → List LogRec → List (PutEnd Entry) → List (PutEnd Entry) → Type 0
AreSentAll b log olds news =
    (index : ℕ) (old : PutEnd Entry) → slice_get olds index ≡ Some old
    → (new : PutEnd Entry) × (slice_get news index ≡ Some new) × IsSentNext b log index (unfed b log index (slice_get b.specs index)) old new

-- so it is of the build that runs
abbrev pub SendsAll : LiveValue → List (PutEnd Entry) → Type 0
SendsAll live news = OnBuild live.state.build (λ b. AreSentAll b live.state.heap.log live.sides news)

-- a build goes on, and the rings of its side-files were sent what comes next
pub record SendsOn (old new : LiveValue) : Type 0 where
  pub build : BuildState
  pub runs : old.state.build ≡ Some build
  pub after : BuildState
  pub goes_on : new.state.build ≡ Some after
  pub same : after ≡ record build { fed = after.fed }
  pub log : new.state.heap.log ≡ old.state.heap.log
  pub each : (index : ℕ) (end : PutEnd Entry) → slice_get old.sides index ≡ Some end
      → (new_end : PutEnd Entry) × (slice_get new.sides index ≡ Some new_end) × (count : ℕ) × (fed_to after index ≡ fed_to build index + count)
      × IsSentNext build old.state.heap.log index count end new_end

-- one copy of a page was put into the worker's ring, behind all that it was sent, and the other page rings are as they were
pub record IsPutTo (worker : ℕ) (old new : LiveValue) : Type 0 where
  pub put : PutEnd Copied
  pub there : slice_get old.pages worker ≡ Some put
  pub after : PutEnd Copied
  pub others : new.pages ≡ set old.pages worker after
  pub copied : Copied
  pub sent : after.sent ≡ put.sent ++ copied ∷ []
  pub ring : after.ring ≡ put.ring
  pub capacity : after.capacity ≡ put.capacity
  -- the copy takes one place, and no other that was known to be free is lost
  pub free : put.free ≤ after.free + 1

-- How a build catches up beside its table: once all that was fed is applied, what is left is fed.
use Rattle.std.specs.Prelude.{◌≡◌, ℕ, ◌+◌, ◌-◌, ◌<◌, ◌≤◌, List, [], length, Option, Some, None}
use Rattle.std.specs.List.{slice_get}
use Rattle.chunk_list.specs.ChunkValue.{ChunkValue}
use Rattle.heap_log.specs.declared.record.LogRec.{LogRec}
use Rattle.side_file.specs.Changes.{TakesMost}
use Rattle.side_file.specs.Ends.{PutEnd}
use Rattle.side_file.specs.declared.entry.Entry.{Entry}
use Rattle.build_events.specs.BuildSteps.{OnBuild, after_feed}
use Rattle.build_events.specs.CoreState.{BuildState, CoreState, LiveState}
use Rattle.build_events.specs.Workers.{all_unfed, fed_to, in_ring, unfed}
use Rattle.live_lemmas.specs.Builds.{LiveValue}

-- how many entries of a build's indexes were not fed yet
abbrev pub entries_waiting : Option BuildState → List LogRec → ℕ
entries_waiting None log = 0
entries_waiting (Some b) log = all_unfed b log

-- the same of the build that runs on a table, if one runs
abbrev pub waiting_in : LiveState → ℕ
waiting_in live = entries_waiting live.build live.heap.log

-- how many entries wait in an index's ring
abbrev pub ring_of : Option BuildState → CoreState → ℕ → ℕ
ring_of None s index = 0
ring_of (Some b) s index = in_ring b s.work index

abbrev pub ring_at : ℕ → CoreState → ℕ
ring_at index s = ring_of s.live.build s index

-- all that was fed of each index was applied
abbrev pub IsSettled : CoreState → Type 0
IsSettled s = OnBuild s.live.build (λ b. (index : ℕ) → index < length b.specs → in_ring b s.work index ≡ 0)

-- nothing but what was fed has changed
pub record OnlyFeeds (s new : CoreState) : Type 0 where
  pub build : BuildState
  pub runs : s.live.build ≡ Some build
  pub fed : List ℕ
  pub new_is : new ≡ record s { live = record s.live { build = Some (record build { fed = fed }) } }

-- how many entries of an index were not fed
abbrev pub left_of_index : BuildState → List LogRec → ℕ → ℕ
left_of_index b log index = unfed b log index (slice_get b.specs index)

-- of each index the first entries that it had left were fed as a batch: all of them, or whole chunks, at most so many together
abbrev pub FeedsEach : ℕ → CoreState → CoreState → Type 0
FeedsEach most s new = OnBuild s.live.build (λ b. OnBuild new.live.build (λ after. (index : ℕ) → index < length b.specs
    → TakesMost most (left_of_index b s.live.heap.log index) (fed_to after index - fed_to b index)))

-- a queue into which a batch of so many entries can be moved by whole chunks
pub record HasRoomForBatch (most : ℕ) (batch : ChunkValue Entry) : Type 0 where
  pub empty : batch.items ≡ []
  pub room : most + 2048 ≤ batch.room

-- the first entries that an index had left were fed as a batch: all of them, or whole chunks, at most so many together
abbrev pub FeedsBatch : ℕ → ℕ → CoreState → ℕ → CoreState → Type 0
FeedsBatch index most s count new = OnBuild s.live.build (λ b. (count ≤ left_of_index b s.live.heap.log index)
    × TakesMost most (left_of_index b s.live.heap.log index) count × (count ≤ most)
    × (new ≡ record s { live = record s.live { build = Some (after_feed b index count) } }))

-- so they were, by the table alone; none where its end of the ring knows no place
pub record HasFedBatch (index most : ℕ) (live : LiveValue) (count : ℕ) (new : LiveValue) : Type 0 where
  pub build : BuildState
  pub runs : live.state.build ≡ Some build
  pub few : count ≤ left_of_index build live.state.heap.log index
  pub within : count ≤ most
  pub put : PutEnd Entry
  pub there : slice_get live.sides index ≡ Some put
  pub whole : 0 < put.free → TakesMost most (left_of_index build live.state.heap.log index) count
  pub left : new.state ≡ record live.state { build = Some (after_feed build index count) }

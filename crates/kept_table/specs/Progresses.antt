-- How far a build is.
use Rattle.std.specs.Prelude.{ℕ, zero, suc, ◌+◌, min, List, length, Option, Some, None}
use Rattle.std.specs.List.{slice_get}
use Rattle.heap_log.specs.declared.record.LogRec.{LogRec}
use Rattle.build_events.specs.CoreState.{BuildState, LiveState}
use Rattle.build_events.specs.Workers.{unfed}

-- how many pages the build reads that runs
abbrev pub pages_read : Option BuildState → ℕ
pages_read None = 0
pages_read (Some b) = b.pages

-- and how many it has copied, up to what 32 bits hold, as no table has more
abbrev pub pages_copied : Option BuildState → ℕ
pages_copied None = 0
pages_copied (Some b) = min (length b.scans) 4294967295

-- how many indexes the build has that runs
abbrev pub index_count : Option BuildState → ℕ
index_count None = 0
index_count (Some b) = length b.specs

-- how many entries of the side-file of an index were not fed
abbrev pub unfed_at : List LogRec → Option BuildState → ℕ → ℕ
unfed_at log None index = 0
unfed_at log (Some b) index = unfed b log index (slice_get b.specs index)

-- and of the first so many of its side-files together
abbrev pub unfed_below : List LogRec → Option BuildState → ℕ → ℕ
unfed_below log build zero = 0
unfed_below log build (suc count) = unfed_below log build count + unfed_at log build count

-- and of all
abbrev pub all_unfed : LiveState → ℕ
all_unfed live = unfed_below live.heap.log live.build (index_count live.build)

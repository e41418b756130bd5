-- What a table knows of the build that runs on it: its ranges and its scans.
use Rattle.std.specs.Prelude.{ℕ, ◌<◌, List, ◌≡◌, ◌≤◌, length, is_some, true, Option, Some, None}
use Rattle.std.specs.List.{All}
use Rattle.build_events.specs.declared.scan.Scan.{Scan}
use Rattle.keybytes.specs.Keys.{KeySpecValue}
use Rattle.keybytes.specs.declared.kind.Kind.{Kind}
use Rattle.heap_log.specs.declared.record.LogRec.{LogRec}
use Rattle.scan_range.specs.Cuts.{CutsValue, are_cuts}
use Rattle.scan_range.specs.Ranges.{RangesValue, is_passed}
use Rattle.build_events.specs.CoreState.{BuildState, scanning_of}
use Rattle.build_events.specs.Scanning.{IsScanned, ReadOnce, scanned_at}

-- each page was copied for one of so many workers
abbrev pub AreForWorkers : ℕ → List Scan → Type 0
AreForWorkers workers scans = All (λ scan. scan.worker < workers) scans

-- a build of these indexes by so many workers, over the ranges that are cut so, which fed so many entries of each
abbrev pub build_over : ℕ → List KeySpecValue → ℕ → ℕ → CutsValue → List Scan → List ℕ → BuildState
build_over number specs workers opened cuts scans fed = record {
  number = number;
  specs = specs;
  opened = opened;
  pages = cuts.pages;
  ends = cuts.ends;
  workers = workers;
  scans = scans;
  fed = fed;
}

-- the scans of a build by so many workers whose ranges are so far
pub record AreScansOf (ranges : RangesValue) (workers : ℕ) (scans : List Scan) : Type 0 where
  pub limit : ranges.pages ≤ 65536
  -- room for a scan a page suffices
  pub within : length scans ≤ ranges.pages
  pub once : ReadOnce scans
  -- a page was passed by its range exactly where it was copied
  pub passed : (page : ℕ) → is_passed ranges page ≡ is_some (scanned_at scans page)
  pub for_workers : AreForWorkers workers scans

-- a build on the table with that log
pub record IsBuildOf (kinds : List Kind) (log : List LogRec) (b : BuildState) : Type 0 where
  pub some_index : 1 ≤ length b.specs
  pub few_indexes : length b.specs ≤ 8
  pub few_workers : b.workers ≤ 16
  pub columns : All (λ spec. spec.kinds ≡ kinds) b.specs
  pub fed_many : length b.fed ≡ length b.specs
  pub limit : b.pages ≤ 65536
  -- its ranges are cuts of its pages
  pub cuts : are_cuts b.pages b.ends ≡ true
  pub for_workers : AreForWorkers b.workers b.scans
  -- which pages were read is the same for each index
  pub scanned : (spec : KeySpecValue) → IsScanned (scanning_of b spec) log

-- the running build, if any, is one of that table
abbrev pub BuildFollows : List Kind → List LogRec → Option BuildState → Type 0
BuildFollows kinds log None = Unit {0}
BuildFollows kinds log (Some b) = IsBuildOf kinds log b

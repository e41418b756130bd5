-- What a build has read of a table while the table's log grew: which pages, and when.
use Rattle.std.specs.Prelude.{◌≡◌, ℕ, ◌<◌, ◌≤◌, Bool, false, ◌||◌, ◌==◌, nat_le, if◌then◌else◌, List, [], ◌∷◌, ◌++◌, length, flat_map, Option, Some, None}
use Rattle.std.specs.List.{All, AllZip}
use Rattle.keybytes.specs.Keys.{KeySpecValue}
use Rattle.keybytes.specs.declared.kind.Kind.{Kind}
use Rattle.keybytes.specs.declared.pair.Pair.{Pair}
use Rattle.keybytes.specs.declared.rid.Rid.{Rid}
use Rattle.heap_log.specs.Growing.{first_records}
use Rattle.heap_log.specs.declared.record.LogRec.{LogRec}
use Rattle.heap_table.specs.Images.{ImageValue, IsImage}
use Rattle.heap_table.specs.Pages.{pages_written}
use Rattle.heap_table.specs.TablePairs.{pairs_on}
use Rattle.build_events.specs.declared.scan.Scan.{Scan}

-- what a build has read of a table for one index: what makes its keys, how many records the log and how many pages the table
-- had when it was opened, and the pages read since
pub record Scanning : Type 0 where
  pub spec : KeySpecValue
  pub opened : ℕ
  pub pages : ℕ
  pub scans : List Scan

-- how many records the log had when the page was read, if it was
abbrev pub scanned_at : List Scan → ℕ → Option ℕ
scanned_at [] page = None
scanned_at (scan ∷ scans) page = if scan.page == page then Some scan.records else scanned_at scans page

-- whether that was so, and with no more records than these
abbrev pub is_by : ℕ → Option ℕ → Bool
is_by count None = false
is_by count (Some records) = nat_le records count

-- whether the build sees what changes at the RID while the log has that many records: the page is newer than the build, or
-- it was read by then
abbrev pub is_visible : Scanning → ℕ → Rid → Bool
is_visible b count rid = nat_le b.pages rid.page || is_by count (scanned_at b.scans rid.page)

-- the pairs of a page as it was when it was read
abbrev pub pairs_at_scan : Scanning → List LogRec → Scan → List Pair
pairs_at_scan b log scan = pairs_on b.spec (first_records scan.records log) scan.page

-- the pairs that the build read, page after page
abbrev pub scanned_pairs : Scanning → List LogRec → List Pair
scanned_pairs b log = flat_map (pairs_at_scan b log) b.scans

-- a page of those that the build reads, read since it was opened
pub record IsScanOf (b : Scanning) (log : List LogRec) (scan : Scan) : Type 0 where
  pub page : scan.page < b.pages
  pub opened : b.opened ≤ scan.records
  pub within : scan.records ≤ length log

-- no page is read twice
abbrev pub ReadOnce : List Scan → Type 0
ReadOnce [] = Unit {0}
ReadOnce (scan ∷ scans) = (scanned_at scans scan.page ≡ None) × ReadOnce scans

-- what a build has read of a table with this log
pub record IsScanned (b : Scanning) (log : List LogRec) : Type 0 where
  pub opened : b.opened ≤ length log
  -- it reads the pages that were written when it was opened
  pub pages : b.pages ≡ pages_written (first_records b.opened log)
  pub scans : All (IsScanOf b log) b.scans
  pub once : ReadOnce b.scans

-- a build that is opened now
abbrev pub opened_scanning : KeySpecValue → List LogRec → Scanning
opened_scanning spec log = record { spec = spec; opened = length log; pages = pages_written log; scans = [] }

-- the build with one page more, read for that worker now
abbrev pub with_scan : Scanning → ℕ → ℕ → List LogRec → Scanning
with_scan b worker page log = record b { scans = b.scans ++ record { worker = worker; page = page; records = length log } ∷ [] }

-- each page that the build reads is read
abbrev pub AllScanned : Scanning → Type 0
AllScanned b = (page : ℕ) → page < b.pages → (records : ℕ) × (scanned_at b.scans page ≡ Some records)

-- a copy for each scan, of its page as it was then
abbrev pub AreCopies : List Kind → List LogRec → List Scan → List ImageValue → Type 0
AreCopies kinds log scans images = AllZip (λ scan image. IsImage kinds (first_records scan.records log) scan.page image) scans images

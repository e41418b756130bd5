-- The ends of a table's rings that put, and what they were sent for a running build.
use Rattle.std.specs.Prelude.{◌≡◌, ℕ, ◌==◌, ◌≤◌, List, length, map, filter, Option, Some, None}
use Rattle.std.specs.List.{slice_get}
use Rattle.keybytes.specs.declared.kind.Kind.{Kind}
use Rattle.heap_log.specs.declared.record.LogRec.{LogRec}
use Rattle.heap_table.specs.Images.{ImageValue}
use Rattle.side_file.specs.Ends.{PutEnd, RingId}
use Rattle.side_file.specs.declared.entry.Entry.{Entry}
use Rattle.page_workers.specs.declared.copied.Copied.{Copied}
use Rattle.build_events.specs.CoreState.{BuildState}
use Rattle.build_events.specs.Scanning.{AreCopies}
use Rattle.build_events.specs.Workers.{put_to}
use Rattle.table_scan.specs.SideFiles.{side_rings}
use Rattle.building.specs.Rings.{put_rings}

-- the ends that put are those of a table with these rings
pub record ArePutEnds (page_rings entry_rings : List RingId) (pages : List (PutEnd Copied)) (sides : List (PutEnd Entry)) : Type 0 where
  pub pages_are : put_rings pages ≡ page_rings
  pub sides_are : side_rings sides ≡ entry_rings
  pub sixteen : length pages ≡ 16
  pub eight : length sides ≡ 8

-- the pages copied for that build, in order, of whatever columns
abbrev pub all_images : ℕ → List Copied → List ImageValue
all_images build copies = map (λ copied. copied.image) (filter (λ copied. copied.build == build) copies)

-- each ring was sent one copy for each scan for its worker, in order, and no other copy of that build
abbrev pub ArePut : List Kind → List LogRec → BuildState → List (List Copied) → Type 0
ArePut kinds log b all =
    (k : ℕ) (sent : List Copied) → slice_get all k ≡ Some sent → AreCopies kinds log (put_to b k) (all_images b.number sent)

-- what the rings were sent for the running build, if one runs
pub record HasPut (kinds : List Kind) (log : List LogRec) (builds : ℕ) (b : BuildState) (all : List (List Copied)) : Type 0 where
  pub number : b.number ≤ builds
  pub put : ArePut kinds log b all

-- the same for the build that runs, if one does
abbrev pub PagesFollow : List Kind → List LogRec → ℕ → Option BuildState → List (List Copied) → Type 0
PagesFollow kinds log builds None all = Unit {0}
PagesFollow kinds log builds (Some b) all = HasPut kinds log builds b all

-- What the rings were sent for a running build.
use Rattle.std.specs.Prelude.{◌≤◌, List, length}
use Rattle.keybytes.specs.declared.kind.Kind.{Kind}
use Rattle.heap_log.specs.declared.record.LogRec.{LogRec}
use Rattle.page_workers.specs.declared.copied.Copied.{Copied}
use Rattle.build_events.specs.CoreState.{BuildState}
use Rattle.build_events.specs.Scanning.{ReadOnce}
use Rattle.table_scan.specs.TableBuilds.{AreForWorkers}
use Rattle.live_lemmas.specs.Rings.{ArePut}

-- the copies that the rings were sent for the build are those of the scanned pages, each once
pub record EachPageOnce (kinds : List Kind) (log : List LogRec) (b : BuildState) (all : List (List Copied)) : Type 0 where
  -- no page is scanned twice, and each is scanned for a worker of the build
  pub once : ReadOnce b.scans
  pub for_workers : AreForWorkers b.workers b.scans
  -- each of which has a ring
  pub ringed : b.workers ≤ length all
  -- a worker's ring was sent one copy for each page scanned for it, as the page was then, in order, and no other
  pub sent : ArePut kinds log b all

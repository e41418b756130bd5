-- What each event leaves of the build that a table knows.
use Rattle.std.proofs.Common.{◌≡◌, ℕ, ◌<◌, ◌≤◌, true, List, [], ◌∷◌, ◌++◌, length, map, Option, Some, None, sym, arith, subst, ◌⊎◌, inl, inr}
use Rattle.std.specs.List.{All, slice_get}
use Rattle.std.proofs.lemmas.List.Elements.{All-nil, All-push}
use Rattle.keybytes.specs.Keys.{KeySpecValue}
use Rattle.keybytes.specs.declared.kind.Kind.{Kind}
use Rattle.heap_log.specs.declared.record.LogRec.{LogRec}
use Rattle.heap_table.specs.Pages.{pages_written}
use Rattle.table_scan.specs.TableBuilds.{IsBuildOf, BuildFollows, build_over}
use Rattle.build_events.specs.CoreState.{BuildState, scanning_of}
use Rattle.scan_range.specs.Cuts.{are_cuts}
use Rattle.build_events.specs.Ranges.{next_page}
use Rattle.std.proofs.lemmas.List.{length-map}
use Rattle.build_events.proofs.ScanSteps.{no_spec, opened_scanned, more_scanned, scan_now, scan_scanned, pages_grow}
use Rattle.page_workers.proofs.Places.{all_at}
use Rattle.build_events.proofs.NextPages.{next_below, next_unscanned}
use Rattle.heap_table.specs.HeapState.{HeapState, after_commit}
use Rattle.heap_log.specs.declared.record.LogRec.TheVariants.{Commit}

-- a build of those indexes starts over those ranges
pub started_build :
    (kinds : List Kind) (log : List LogRec) (number : ℕ) (specs : List KeySpecValue) (workers : ℕ) (ends : List ℕ) → 1 ≤ length specs → length specs ≤ 8
    → All (λ (spec : KeySpecValue). spec.kinds ≡ kinds) specs → pages_written log ≤ 65536 → are_cuts (pages_written log) ends ≡ true → workers ≤ 16
    → IsBuildOf kinds log (build_over number specs workers (length log) (record { pages = pages_written log; ends = ends }) [] (map (λ spec. 0) specs))
started_build kinds log number specs workers ends some few_indexes columns limit cuts few = record {
  some_index = some;
  few_indexes = few_indexes;
  few_workers = few;
  columns = columns;
  fed_many = length-map specs (λ spec. 0);
  limit = limit;
  cuts = cuts;
  for_workers = All-nil (λ scan. scan.worker < workers);
  scanned = λ spec. opened_scanned spec log;
}

-- the next page of a range is copied for a worker
pub scanned_build :
    (kinds : List Kind) (log : List LogRec) (b : BuildState) (range worker page : ℕ) → IsBuildOf kinds log b → next_page b range ≡ Some page → worker < b.workers
    → IsBuildOf kinds log (record b { scans = b.scans ++ scan_now worker page log ∷ [] })
scanned_build kinds log b range worker page is next for = record {
  some_index = is.some_index;
  few_indexes = is.few_indexes;
  few_workers = is.few_workers;
  columns = is.columns;
  fed_many = is.fed_many;
  limit = is.limit;
  cuts = is.cuts;
  for_workers = All-push (λ scan. scan.worker < b.workers) b.scans (scan_now worker page log) is.for_workers for;
  scanned = λ spec. scan_scanned (scanning_of b spec) worker page log (is.scanned spec) (next_below b range page next is.cuts) (next_unscanned b range page next);
}

-- what was read stays so as the log grows
build_grown : (kinds : List Kind) (log : List LogRec) (rec : LogRec) (b : BuildState) → IsBuildOf kinds log b → IsBuildOf kinds (log ++ rec ∷ []) b
build_grown kinds log rec b is = record {
  some_index = is.some_index;
  few_indexes = is.few_indexes;
  few_workers = is.few_workers;
  columns = is.columns;
  fed_many = is.fed_many;
  limit = is.limit;
  cuts = is.cuts;
  for_workers = is.for_workers;
  scanned = λ spec. more_scanned (scanning_of b spec) log rec (is.scanned spec);
}

pub build_kept : (kinds : List Kind) (log : List LogRec) (rec : LogRec) (build : Option BuildState) → BuildFollows kinds log build → BuildFollows kinds (log ++ rec ∷ []) build
build_kept kinds log rec None is = tt
build_kept kinds log rec (Some b) is = build_grown kinds log rec b is

-- a specification of the build is of the table's columns
pub columns_at :
    (kinds : List Kind) (log : List LogRec) (b : BuildState) (index : ℕ) (spec : KeySpecValue) → IsBuildOf kinds log b → slice_get b.specs index ≡ Some spec
    → spec.kinds ≡ kinds
columns_at kinds log b index spec is at = all_at (λ (s : KeySpecValue). s.kinds ≡ kinds) b.specs index spec is.columns at

-- the page that comes next is one of the table's
pub next_written : (kinds : List Kind) (log : List LogRec) (b : BuildState) (range page : ℕ) → IsBuildOf kinds log b → next_page b range ≡ Some page → page < pages_written log
next_written kinds log b range page is next =
    let less = next_below b range page next is.cuts in
    let grow = pages_grow b.opened log in
    let pages = (is.scanned no_spec).pages in
    omega (arith, less, grow, pages)

-- it is copied now
pub scanned_next :
    (kinds : List Kind) (log : List LogRec) (b : BuildState) (range worker page records : ℕ) → IsBuildOf kinds log b → next_page b range ≡ Some page
    → worker < b.workers → records ≡ length log
    → IsBuildOf kinds log (record b { scans = b.scans ++ record { worker = worker; page = page; records = records } ∷ [] })
scanned_next kinds log b range worker page records is next for now =
    subst (λ r. IsBuildOf kinds log (record b { scans = b.scans ++ record { worker = worker; page = page; records = r } ∷ [] }))
    (sym now) (scanned_build kinds log b range worker page is next for)

-- after a commit the build is one of the table
pub commit_follows :
    (old new : HeapState) (txn : ℕ) (build : Option BuildState) → (new ≡ after_commit old txn) ⊎ (new ≡ old)
    → BuildFollows old.schema old.log build → BuildFollows new.schema new.log build
commit_follows old new txn build (inl done) is =
    subst (λ (h : HeapState). BuildFollows h.schema h.log build) (sym done) (build_kept old.schema old.log (Commit txn) build is)
commit_follows old new txn build (inr refused) is = subst (λ (h : HeapState). BuildFollows h.schema h.log build) (sym refused) is

-- What each event leaves of the work of a build, and what its switch makes ready.
use Rattle.std.proofs.Common.{◌≡◌, ℕ, ◌≤◌, List, [], ◌∷◌, ◌++◌, length, length-append, take, take_all, Option, Some, None, sym, ap, ◌∙◌, arith, subst}
use Rattle.std.specs.Prelude.{is_some}
use Rattle.std.specs.FinMap.{keys}
use Rattle.std.specs.List.{All}
use Rattle.keybytes.specs.Keys.{KeySpecValue}
use Rattle.keybytes.specs.Pairs.{set_of}
use Rattle.keybytes.specs.declared.kind.Kind.{Kind}
use Rattle.heap_log.specs.declared.record.LogRec.{LogRec}
use Rattle.heap_table.specs.TablePairs.{pairs_at_rest}
use Rattle.building.specs.BuildingValue.{WorkValue, IndexValue}
use Rattle.building.specs.WorkOn.{IsIndexOn, IsWorkOfBuild, WorkMatches}
use Rattle.table_scan.specs.TableBuilds.{IsBuildOf, BuildFollows}
use Rattle.build_events.specs.CoreState.{BuildState, scanning_of}
use Rattle.build_events.specs.Ranges.{next_page}
use Rattle.build_events.specs.Scanning.{Scanning, IsScanOf, AllScanned, scanned_pairs}
use Rattle.visibility.specs.Applied.{apply_entries}
use Rattle.build_events.specs.SideEntries.{entries_of, side_entries}
use Rattle.std.proofs.lemmas.List.{take-append-le}
use Rattle.catch_up.specs.Built.{BuiltValue}
use Rattle.build_events.proofs.EntrySteps.{more_entries}
use Rattle.build_events.proofs.ScanSteps.{pairs_kept}
use Rattle.build_events.proofs.NextPages.{no_page, all_copied}
use Rattle.build_events.proofs.SideFollows.{leaves_index}
use Rattle.building.proofs.Works.{scanned_work_on}

index_grown :
    (kinds : List Kind) (log : List LogRec) (rec : LogRec) (b : BuildState) (spec : KeySpecValue) (index : IndexValue) → IsBuildOf kinds log b
    → IsIndexOn log b spec index → IsIndexOn (log ++ rec ∷ []) b spec index
index_grown kinds log rec b spec index build is = record {
  all = is.all;
  none_before = is.none_before;
  there = let more = length-append (side_entries here log) (entries_of here log rec) in let grown = ap length grows in omega (arith, is.there, more, grown);
  loaded = λ built t.
      is.loaded built t
      ∙ ap (λ es. keys (apply_entries es (set_of (scanned_pairs here log))))
      (sym (ap (take index.applied) grows ∙ take-append-le index.applied (side_entries here log) (entries_of here log rec) is.there))
      ∙ sym (ap (λ ps. keys (apply_entries (take index.applied (side_entries here (log ++ rec ∷ []))) (set_of ps))) (pairs_kept here log rec b.scans scans));
  of_build = is.of_build;
  of_spec = is.of_spec;
} where
  here : Scanning
  here = scanning_of b spec

  grows : side_entries here (log ++ rec ∷ []) ≡ side_entries here log ++ entries_of here log rec
  grows = more_entries here log rec (build.scanned spec).opened

  scans : All (IsScanOf here log) b.scans
  scans = (build.scanned spec).scans

work_grown :
    (kinds : List Kind) (log : List LogRec) (rec : LogRec) (b : BuildState) (work : WorkValue) → IsBuildOf kinds log b → IsWorkOfBuild kinds log b work
    → IsWorkOfBuild kinds (log ++ rec ∷ []) b work
work_grown kinds log rec b work build is = record {
  number = is.number;
  specs = is.specs;
  columns = is.columns;
  many = is.many;
  indexes = λ k spec index at there. index_grown kinds log rec b spec index build (is.indexes k spec index at there);
}

pub work_kept :
    (kinds : List Kind) (log : List LogRec) (rec : LogRec) (build : Option BuildState) (work : Option WorkValue) → BuildFollows kinds log build → WorkMatches kinds log build work
    → WorkMatches kinds (log ++ rec ∷ []) build work
work_kept kinds log rec None None build is = tt
work_kept kinds log rec None (Some w) build is = is
work_kept kinds log rec (Some b) None build is = is
work_kept kinds log rec (Some b) (Some w) build is = work_grown kinds log rec b w build is

-- once the side-file is applied to the scanned pairs, they are the pairs at rest
pub switched_pairs :
    (kinds : List Kind) (log : List LogRec) (b : BuildState) (spec : KeySpecValue) (index : IndexValue) (built : BuiltValue) → IsBuildOf kinds log b
    → IsIndexOn log b spec index → index.built ≡ Some built → length (side_entries (scanning_of b spec) log) ≤ index.applied
    → built.pairs ≡ pairs_at_rest spec log
switched_pairs kinds log b spec index built build is loaded all =
    let here : Scanning = scanning_of b spec in
    let whole : AllScanned here = all_copied b (is.all (ap is_some loaded)) build.cuts in
    is.loaded built loaded
    ∙ ap (λ es. keys (apply_entries es (set_of (scanned_pairs here log)))) (take_all index.applied (side_entries here log) all)
    ∙ ap keys (leaves_index here log (build.scanned spec) whole)

-- where the next page is copied, the work of the build stands
pub work_next :
    (kinds : List Kind) (log : List LogRec) (b : BuildState) (work : WorkValue) (range worker page records : ℕ) → IsWorkOfBuild kinds log b work
    → next_page b range ≡ Some page → records ≡ length log
    → IsWorkOfBuild kinds log (record b { scans = b.scans ++ record { worker = worker; page = page; records = records } ∷ [] }) work
work_next kinds log b work range worker page records is next now =
    subst (λ r. IsWorkOfBuild kinds log (record b { scans = b.scans ++ record { worker = worker; page = page; records = r } ∷ [] }) work)
    (sym now) (scanned_work_on kinds log b work worker page is (λ none. no_page b none range page next))

pub work_of_next :
    (kinds : List Kind) (log : List LogRec) (b : BuildState) (work : Option WorkValue) (range worker page records : ℕ) → WorkMatches kinds log (Some b) work
    → next_page b range ≡ Some page → records ≡ length log
    → WorkMatches kinds log (Some (record b { scans = b.scans ++ record { worker = worker; page = page; records = records } ∷ [] })) work
work_of_next kinds log b None range worker page records is next now = is
work_of_next kinds log b (Some w) range worker page records is next now = work_next kinds log b w range worker page records is next now

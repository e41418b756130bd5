-- The pairs on the copies of a build.
use Rattle.std.proofs.Common.{◌≡◌, List, [], ◌∷◌, refl}
use Rattle.std.specs.Prelude.{flat_map}
use Rattle.keybytes.specs.declared.kind.Kind.{Kind}
use Rattle.heap_log.specs.Growing.{first_records}
use Rattle.heap_log.specs.declared.record.LogRec.{LogRec}
use Rattle.heap_table.specs.Images.{ImageValue}
use Rattle.page_workers.specs.ImagePairs.{HavePairs}
use Rattle.page_workers.proofs.PageCopies.{copy_pairs}
use Rattle.build_events.specs.Scanning.{Scanning, AreCopies, pairs_at_scan}
use Rattle.build_events.specs.declared.scan.Scan.{Scan}

-- copies for scans have the pairs of their pages as they were then
pub copies_pairs :
    (b : Scanning) (kinds : List Kind) (log : List LogRec) (scans : List Scan) (images : List ImageValue) → b.spec.kinds ≡ kinds → AreCopies kinds log scans images
    → HavePairs b.spec images (flat_map (pairs_at_scan b log) scans)
copies_pairs b kinds log [] [] columns copies = refl
copies_pairs b kinds log [] (image ∷ images) columns copies = absurd copies
copies_pairs b kinds log (scan ∷ scans) [] columns copies = absurd copies
copies_pairs b kinds log (scan ∷ scans) (image ∷ images) columns copies = (
  pairs_at_scan b log scan,
  flat_map (pairs_at_scan b log) scans,
  copy_pairs b.spec kinds (first_records scan.records log) scan.page image columns copies.0,
  copies_pairs b kinds log scans images columns copies.1,
  refl,
)

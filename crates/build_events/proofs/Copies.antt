-- What a record and a page more do to the copies that wait for a worker.
use Rattle.std.proofs.Common.{◌≡◌, ℕ, suc, List, [], ◌∷◌, ◌++◌, length, sym, refl, ap, subst, arith, take_all}
use Rattle.std.specs.List.{All}
use Rattle.std.proofs.lemmas.List.{take-append-le}
use Rattle.std.proofs.lemmas.List.Elements.{All-head, All-tail}
use Rattle.keybytes.specs.declared.kind.Kind.{Kind}
use Rattle.heap_log.specs.Growing.{first_records}
use Rattle.heap_log.specs.declared.record.LogRec.{LogRec}
use Rattle.heap_table.specs.Images.{ImageValue, IsImage}
use Rattle.build_events.specs.Scanning.{Scanning, IsScanOf, AreCopies}
use Rattle.build_events.specs.declared.scan.Scan.{Scan}
use Rattle.build_events.proofs.ScanSteps.{scan_now}

-- a record more
pub copies_kept :
    (kinds : List Kind) (b : Scanning) (log : List LogRec) (rec : LogRec) (scans : List Scan) (images : List ImageValue)
    → All (IsScanOf b log) scans → AreCopies kinds log scans images → AreCopies kinds (log ++ rec ∷ []) scans images
copies_kept kinds b log rec [] [] all copies = tt
copies_kept kinds b log rec [] (image ∷ images) all copies = copies
copies_kept kinds b log rec (scan ∷ scans) [] all copies = copies
copies_kept kinds b log rec (scan ∷ scans) (image ∷ images) all copies =
    let it : IsScanOf b log scan = All-head (IsScanOf b log) scan scans all in
    let same = take-append-le scan.records log (rec ∷ []) it.within in (
      subst (λ (l : List LogRec). IsImage kinds l scan.page image) (sym same) copies.0,
      copies_kept kinds b log rec scans images (All-tail (IsScanOf b log) scan scans all) copies.1,
    )

-- a copy more
pub copies_last :
    (kinds : List Kind) (log : List LogRec) (scans : List Scan) (images : List ImageValue) (scan : Scan) (image : ImageValue)
    → AreCopies kinds log scans images → IsImage kinds (first_records scan.records log) scan.page image
    → AreCopies kinds log (scans ++ scan ∷ []) (images ++ image ∷ [])
copies_last kinds log [] [] scan image copies last = (last, tt)
copies_last kinds log [] (i ∷ images) scan image copies last = absurd copies
copies_last kinds log (s ∷ scans) [] scan image copies last = absurd copies
copies_last kinds log (s ∷ scans) (i ∷ images) scan image copies last =
    (copies.0, copies_last kinds log scans images scan image copies.1 last)

-- a page more, copied now
pub copies_scan :
    (kinds : List Kind) (log : List LogRec) (scans : List Scan) (images : List ImageValue) (worker page : ℕ) (image : ImageValue)
    → AreCopies kinds log scans images → IsImage kinds log page image
    → AreCopies kinds log (scans ++ scan_now worker page log ∷ []) (images ++ image ∷ [])
copies_scan kinds log scans images worker page image copies copy =
    copies_last kinds log scans images (scan_now worker page log) image copies
    (subst (λ (l : List LogRec). IsImage kinds l page image) (sym (take_all (length log) log (omega arith))) copy)

-- there are as many copies as scans
pub copies_count :
    (kinds : List Kind) (log : List LogRec) (scans : List Scan) (images : List ImageValue) → AreCopies kinds log scans images
    → length images ≡ length scans
copies_count kinds log [] [] copies = refl
copies_count kinds log [] (image ∷ images) copies = absurd copies
copies_count kinds log (scan ∷ scans) [] copies = absurd copies
copies_count kinds log (scan ∷ scans) (image ∷ images) copies = ap suc (copies_count kinds log scans images copies.1)

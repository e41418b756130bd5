-- What the rings were sent for a build, as the log grows and pages are copied.
use Rattle.std.proofs.Common.{◌≡◌, ℕ, ◌+◌, ◌==◌, ◌<◌, ◌≤◌, true, false, List, [], ◌∷◌, ◌++◌, set, append-nil, Option, Some, None, refl, sym}
use Rattle.std.proofs.Common.{ap, ◌∙◌, subst, inl, inr, arith}
use Rattle.std.specs.Prelude.{filter}
use Rattle.std.specs.List.{All, slice_get}
use Rattle.std.proofs.lemmas.Bool.{eq-eqb, ne_eqb}
use Rattle.std.proofs.lemmas.List.Elements.{All-filter, All-weaker, filter-append}
use Rattle.keybytes.specs.declared.kind.Kind.{Kind}
use Rattle.heap_log.specs.declared.record.LogRec.{LogRec}
use Rattle.heap_table.specs.Images.{ImageValue, IsImage}
use Rattle.page_workers.specs.declared.copied.Copied.{Copied}
use Rattle.table_scan.specs.TableBuilds.{BuildFollows}
use Rattle.build_events.specs.CoreState.{BuildState, scanning_of}
use Rattle.live_lemmas.specs.Rings.{all_images, ArePut, HasPut, PagesFollow}
use Rattle.building.specs.Rings.{AreOfBuilds}
use Rattle.build_events.specs.Scanning.{IsScanOf, AreCopies}
use Rattle.build_events.specs.Workers.{put_to}
use Rattle.build_events.specs.declared.scan.Scan.{Scan}
use Rattle.live_lemmas.proofs.AllImages.{all-append, all_none, all_one}
use Rattle.build_events.proofs.Copies.{copies_kept, copies_scan}
use Rattle.page_workers.proofs.Places.{at_set, all_at}
use Rattle.build_events.proofs.ScanSteps.{no_spec, scan_now}

-- the log grows
pub pages_kept :
    (kinds : List Kind) (log : List LogRec) (rec : LogRec) (builds : ℕ) (build : Option BuildState) (all : List (List Copied))
    → BuildFollows kinds log build → PagesFollow kinds log builds build all → PagesFollow kinds (log ++ rec ∷ []) builds build all
pages_kept kinds log rec builds None all build is = tt
pages_kept kinds log rec builds (Some b) all build is = record {
  number = is.number;
  put = λ k sent at.
      copies_kept kinds (scanning_of b no_spec) log rec (put_to b k) (all_images b.number sent)
      (All-filter (λ scan. scan.worker == k) (IsScanOf (scanning_of b no_spec) log) b.scans (build.scanned no_spec).scans) (is.put k sent at);
}

-- of a build that starts nothing was sent before
pub pages_started :
    (kinds : List Kind) (log : List LogRec) (builds : ℕ) (b : BuildState) (all : List (List Copied)) → b.number ≡ builds + 1 → b.scans ≡ []
    → AreOfBuilds builds all → HasPut kinds log (builds + 1) b all
pages_started kinds log builds b all number none before = record {
  number = omega (arith, number);
  put = λ k sent at.
      let old : All (λ copied. copied.build ≤ builds) sent = all_at (λ xs. All (λ copied. copied.build ≤ builds) xs) all k sent before at in
      let earlier : All (λ copied. copied.build < b.number) sent =
      All-weaker (λ copied. copied.build ≤ builds) (λ copied. copied.build < b.number) (λ copied le. omega (arith, le, number)) sent old in
      subst (λ (images : List ImageValue). AreCopies kinds log (put_to b k) images) (sym (all_none b.number sent earlier))
      (subst (λ (scans : List Scan). AreCopies kinds log (filter (λ scan. scan.worker == k) scans) []) (sym none) tt);
}

-- and none of its number comes before it
pub builds_more : (builds : ℕ) (all : List (List Copied)) → AreOfBuilds builds all → AreOfBuilds (builds + 1) all
builds_more builds all before =
    All-weaker (λ sent. All (λ copied. copied.build ≤ builds) sent) (λ sent. All (λ copied. copied.build ≤ builds + 1) sent)
    (λ sent old. All-weaker (λ copied. copied.build ≤ builds) (λ copied. copied.build ≤ builds + 1) (λ copied le. omega (arith, le)) sent old) all before

-- the scans for a worker, and for the others, where one page more is copied
put_here : (b : BuildState) (worker page : ℕ) (log : List LogRec)
    → put_to (record b { scans = b.scans ++ scan_now worker page log ∷ [] }) worker ≡ put_to b worker ++ scan_now worker page log ∷ []
put_here b worker page log =
    let here : (worker == worker) ≡ true = eq-eqb worker worker refl in
    filter-append (λ scan. scan.worker == worker) b.scans (scan_now worker page log ∷ [])
    ∙ ap (λ (scans : List Scan). put_to b worker ++ scans) (rw here refl)

put_there : (b : BuildState) (worker page k : ℕ) (log : List LogRec) → (k ≡ worker → ⊥)
    → put_to (record b { scans = b.scans ++ scan_now worker page log ∷ [] }) k ≡ put_to b k
put_there b worker page k log other =
    let there : (worker == k) ≡ false = ne_eqb worker k (λ same. other (sym same)) in
    filter-append (λ scan. scan.worker == k) b.scans (scan_now worker page log ∷ [])
    ∙ ap (λ (scans : List Scan). put_to b k ++ scans) (rw there refl) ∙ append-nil (put_to b k)

-- one page more is copied, and its copy is put
pub put_scanned :
    (kinds : List Kind) (log : List LogRec) (b : BuildState) (all : List (List Copied)) (worker page : ℕ) (sent : List Copied) (image : ImageValue)
    → slice_get all worker ≡ Some sent → ArePut kinds log b all → IsImage kinds log page image
    → ArePut kinds log (record b { scans = b.scans ++ scan_now worker page log ∷ [] })
    (set all worker (sent ++ record { build = b.number; image = image } ∷ []))
put_scanned kinds log b all worker page sent image at put copy k new here =
    let copied : Copied = record { build = b.number; image = image } in
    elim (at_set all worker (sent ++ copied ∷ []) k new here) [
      | inl it ↦
          let images : all_images b.number new ≡ all_images b.number sent ++ image ∷ [] =
          ap (all_images b.number) it.1 ∙ all-append b.number sent (copied ∷ []) ∙ ap (λ (is : List ImageValue). all_images b.number sent ++ is) (all_one b.number copied refl) in
          let scans : put_to (record b { scans = b.scans ++ scan_now worker page log ∷ [] }) k ≡ put_to b worker ++ scan_now worker page log ∷ [] =
          ap (put_to (record b { scans = b.scans ++ scan_now worker page log ∷ [] })) it.0 ∙ put_here b worker page log in
          subst (λ (is : List ImageValue). AreCopies kinds log (put_to (record b { scans = b.scans ++ scan_now worker page log ∷ [] }) k) is) (sym images)
          (subst (λ (ss : List Scan). AreCopies kinds log ss (all_images b.number sent ++ image ∷ [])) (sym scans)
          (copies_scan kinds log (put_to b worker) (all_images b.number sent) worker page image (put worker sent at) copy))
      | inr it ↦
          subst (λ (ss : List Scan). AreCopies kinds log ss (all_images b.number new)) (sym (put_there b worker page k log it.0)) (put k new it.1)
    ]

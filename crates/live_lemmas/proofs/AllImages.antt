-- The pages copied for a build, of whatever columns.
use Rattle.std.proofs.Common.{◌≡◌, ℕ, ◌==◌, ◌<◌, Bool, true, false, List, [], ◌∷◌, ◌++◌, map, refl, ap, ◌∙◌, subst, arith}
use Rattle.std.specs.Prelude.{filter}
use Rattle.std.specs.List.{All}
use Rattle.std.proofs.lemmas.Bool.Decides.{nat_tests}
use Rattle.std.proofs.lemmas.List.{map-append}
use Rattle.std.proofs.lemmas.List.Elements.{filter-append, All-head, All-tail}
use Rattle.keybytes.specs.Schemas.{same_kinds}
use Rattle.keybytes.specs.declared.kind.Kind.{Kind}
use Rattle.keybytes.proofs.SameKinds.{same_kinds_decides}
use Rattle.heap_log.specs.declared.record.LogRec.{LogRec}
use Rattle.heap_table.specs.Images.{ImageValue}
use Rattle.page_workers.specs.Copies.{images_of}
use Rattle.page_workers.specs.declared.copied.Copied.{Copied}
use Rattle.live_lemmas.specs.Rings.{all_images}
use Rattle.build_events.specs.Scanning.{AreCopies}
use Rattle.build_events.specs.declared.scan.Scan.{Scan}

-- among more copies
pub all-append : (build : ℕ) (xs ys : List Copied) → all_images build (xs ++ ys) ≡ all_images build xs ++ all_images build ys
all-append build xs ys =
    let is : Copied → Bool = λ copied. copied.build == build in
    ap (map (λ (copied : Copied). copied.image)) (filter-append is xs ys)
    ∙ map-append (λ (copied : Copied). copied.image) (filter is xs) (filter is ys)

-- of a later build there is none
pub all_none : (build : ℕ) (xs : List Copied) → All (λ copied. copied.build < build) xs → all_images build xs ≡ []
all_none build [] all = refl
all_none build (x ∷ xs) all =
    let before : x.build < build = All-head (λ (copied : Copied). copied.build < build) x xs all in
    let other : (x.build == build) ≡ false = grind (arith, nat_tests) in
    rw other (all_none build xs (All-tail (λ (copied : Copied). copied.build < build) x xs all))

-- of one copy of that build
pub all_one : (build : ℕ) (copied : Copied) → copied.build ≡ build → all_images build (copied ∷ []) ≡ copied.image ∷ []
all_one build copied is =
    let own : (copied.build == build) ≡ true = grind (arith, nat_tests) in
    rw own refl

-- a copy that isn't of that build is passed over
all_other : (build : ℕ) (x : Copied) (xs : List Copied) → (x.build == build) ≡ false → all_images build (x ∷ xs) ≡ all_images build xs
all_other build x xs other = rw other refl

-- one that is comes first
all_first : (build : ℕ) (x : Copied) (xs : List Copied) → (x.build == build) ≡ true → all_images build (x ∷ xs) ≡ x.image ∷ all_images build xs
all_first build x xs own = rw own refl

-- where they are of a table's columns behind the first copy, and that one is, they are all
own_more :
    (kinds : List Kind) (log : List LogRec) (build : ℕ) (scans : List Scan) (x : Copied) (xs : List Copied) (own : Bool) → (x.build == build) ≡ own
    → ((rest : List Scan) → AreCopies kinds log rest (all_images build xs) → images_of build kinds xs ≡ all_images build xs)
    → AreCopies kinds log scans (all_images build (x ∷ xs)) → images_of build kinds (x ∷ xs) ≡ all_images build (x ∷ xs)
own_more kinds log build scans x xs false other more copies =
    rw other (more scans (subst (AreCopies kinds log scans) (all_other build x xs other) copies))
own_more kinds log build [] x xs true own more copies = absurd (subst (AreCopies kinds log []) (all_first build x xs own) copies)
own_more kinds log build (scan ∷ scans) x xs true own more copies =
    let first = subst (AreCopies kinds log (scan ∷ scans)) (all_first build x xs own) copies in
    let same : same_kinds x.image.schema kinds ≡ true = (same_kinds_decides x.image.schema kinds).1 first.0.schema in
    rw (own, same) (ap (λ (images : List ImageValue). x.image ∷ images) (more scans first.1))

-- copies of a table's pages are of its columns
pub all_own :
    (kinds : List Kind) (log : List LogRec) (build : ℕ) (scans : List Scan) (sent : List Copied) → AreCopies kinds log scans (all_images build sent)
    → images_of build kinds sent ≡ all_images build sent
all_own kinds log build scans [] copies = refl
all_own kinds log build scans (x ∷ xs) copies = own_more kinds log build scans x xs (x.build == build) refl (λ rest. all_own kinds log build rest xs) copies

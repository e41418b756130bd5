-- The pairs of several copies, and the images of a build among several copies.
use Rattle.std.proofs.Common.{◌≡◌, ℕ, ◌==◌, ◌<◌, ◌≤◌, Bool, false, Decides, List, [], ◌∷◌, ◌++◌, length, map, append_assoc}
use Rattle.std.proofs.Common.{refl, sym, ap, ◌∙◌, subst, arith}
use Rattle.std.specs.Prelude.{filter}
use Rattle.std.proofs.lemmas.List.{map-append, length-map}
use Rattle.std.specs.List.{All}
use Rattle.std.proofs.lemmas.Bool.Decides.{nat_tests, Decides-and, Decides-eqb, Decides-like}
use Rattle.std.proofs.lemmas.List.Elements.{filter-append, All-head, All-tail}
use Rattle.std.proofs.lemmas.List.Sums.{length-filter, count_by-le-length}
use Rattle.keybytes.specs.Keys.{KeySpecValue}
use Rattle.keybytes.specs.Schemas.{same_kinds}
use Rattle.keybytes.specs.declared.kind.Kind.{Kind}
use Rattle.keybytes.specs.declared.pair.Pair.{Pair}
use Rattle.keybytes.proofs.SameKinds.{same_kinds_decides}
use Rattle.heap_table.specs.Images.{ImageValue}
use Rattle.page_workers.specs.declared.copied.Copied.{Copied}
use Rattle.page_workers.specs.Copies.{IsFor, is_for, images_of}
use Rattle.page_workers.specs.ImagePairs.{HavePairs}

-- the pairs of copies and of more copies
pub have_append :
    (spec : KeySpecValue) (xs ys : List ImageValue) (a b : List Pair) → HavePairs spec xs a → HavePairs spec ys b → HavePairs spec (xs ++ ys) (a ++ b)
have_append spec [] ys a b none have = subst (λ ps. HavePairs spec ys (ps ++ b)) (sym none) have
have_append spec (x ∷ xs) ys a b some have = (
  some.0,
  some.1 ++ b,
  some.2,
  have_append spec xs ys some.1 b some.3 have,
  ap (λ ps. ps ++ b) some.4 ∙ append_assoc some.0 some.1 b,
)

-- the pairs of the first copies, and those of the others
pub have_split :
    (spec : KeySpecValue) (xs ys : List ImageValue) (made : List Pair) → HavePairs spec (xs ++ ys) made
    → (a : List Pair) × (b : List Pair) × HavePairs spec xs a × HavePairs spec ys b × (made ≡ a ++ b)
have_split spec [] ys made have = ([], made, refl, have, refl)
have_split spec (x ∷ xs) ys made have =
    let inner = have_split spec xs ys have.1 have.3 in (
      have.0 ++ inner.0,
      inner.1,
      (have.0, inner.0, have.2, inner.2, refl),
      inner.3,
      have.4 ∙ (ap (λ ps. have.0 ++ ps) inner.4 ∙ sym (append_assoc have.0 inner.0 inner.1)),
    )

-- the test of a copy tells for which build and which columns it was made
pub for_decides : (build : ℕ) (kinds : List Kind) (copied : Copied) → Decides (is_for build kinds copied) (IsFor build kinds copied)
for_decides build kinds copied =
    Decides-like (is_for build kinds copied) (λ both. record { number = both.0; columns = both.1 }) (λ is. (is.number, is.columns))
    (Decides-and (copied.build == build) (same_kinds copied.image.schema kinds) (Decides-eqb copied.build build)
    (same_kinds_decides copied.image.schema kinds))

-- the images of a build among more copies
pub images-append : (build : ℕ) (kinds : List Kind) (xs ys : List Copied) → images_of build kinds (xs ++ ys) ≡ images_of build kinds xs ++ images_of build kinds ys
images-append build kinds xs ys =
    let is : Copied → Bool = λ copied. is_for build kinds copied in
    ap (map (λ (copied : Copied). copied.image)) (filter-append is xs ys)
    ∙ map-append (λ (copied : Copied). copied.image) (filter is xs) (filter is ys)

-- no build has more images than there are copies
pub images_few : (build : ℕ) (kinds : List Kind) (xs : List Copied) → length (images_of build kinds xs) ≤ length xs
images_few build kinds xs =
    let is : Copied → Bool = λ copied. is_for build kinds copied in
    omega (arith, length-map (filter is xs) (λ (copied : Copied). copied.image), length-filter is xs, count_by-le-length is xs)

-- of a later build there is none
pub images_none : (build : ℕ) (kinds : List Kind) (xs : List Copied) → All (λ copied. copied.build < build) xs → images_of build kinds xs ≡ []
images_none build kinds [] all = refl
images_none build kinds (x ∷ xs) all =
    let before : x.build < build = All-head (λ (copied : Copied). copied.build < build) x xs all in
    let other : (x.build == build) ≡ false = grind (arith, nat_tests) in
    rw other (images_none build kinds xs (All-tail (λ (copied : Copied). copied.build < build) x xs all))

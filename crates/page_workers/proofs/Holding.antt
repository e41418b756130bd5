-- What is held of copies that are taken one after another.
use Rattle.std.proofs.Common.{◌≡◌, ℕ, ◌+◌, ◌*◌, ◌<◌, ◌≤◌, zero, suc, List, [], ◌∷◌, ◌++◌, All, length, get_or, append-nil, refl, sym, ap, ap₂, ◌∙◌, subst, arith}
use Rattle.std.specs.Prelude.{IsPermutation}
use Rattle.std.proofs.lemmas.List.{length_push}
use Rattle.std.proofs.lemmas.List.Elements.{All-head, All-tail}
use Rattle.std.proofs.lemmas.List.Sorted.{IsPermutation-append_right, IsPermutation-trans, length_permutation}
use Rattle.keybytes.specs.Keys.{KeySpecValue}
use Rattle.keybytes.specs.declared.pair.Pair.{Pair}
use Rattle.heap_table.specs.Images.{ImageValue}
use Rattle.run_spool.specs.Spools.{all_pairs, with_closed_run}
use Rattle.run_maker.specs.Making.{Holdings, AddsAt, Takes, TakesPart, Seals, held_at, spec_at}
use Rattle.run_maker.proofs.Parts.{first_none}
use Rattle.run_maker.proofs.Spoolings.{adds_more, adds_none, all_closed}
use Rattle.page_workers.specs.Holding.{TakesAll, TakesUpTo, HoldsMore}
use Rattle.page_workers.specs.ImagePairs.{HavePairs}
use Rattle.page_workers.proofs.ManyPairs.{have_split}

-- a single image
pub takes_one :
    (specs : List KeySpecValue) (image : ImageValue) (images : List ImageValue) (old new : Holdings) → images ≡ image ∷ [] → Takes specs image old new
    → TakesAll specs images old new
takes_one specs image images old new one takes = λ i lt made have.
    let here : HavePairs (spec_at specs i) (image ∷ []) made = subst (λ xs. HavePairs (spec_at specs i) xs made) one have in
    let is : made ≡ here.0 = here.4 ∙ (ap (λ ps. here.0 ++ ps) here.3 ∙ append-nil here.0) in
    subst (λ ps. AddsAt i ps old new) (sym is) (takes i lt here.0 here.2)

-- no image
pub takes_nothing : (specs : List KeySpecValue) (images : List ImageValue) (held : Holdings) → images ≡ [] → TakesAll specs images held held
takes_nothing specs images held none = λ i lt made have.
    let no_pair : made ≡ [] = subst (λ xs. HavePairs (spec_at specs i) xs made) none have in
    subst (λ ps. AddsAt i ps held held) (sym no_pair) (adds_none (get_or held.runs i []) (get_or held.begun i []))

-- images, and then more of them
pub takes_more :
    (specs : List KeySpecValue) (xs ys : List ImageValue) (start middle end : Holdings) → TakesAll specs xs start middle → TakesAll specs ys middle end
    → TakesAll specs (xs ++ ys) start end
takes_more specs xs ys start middle end first then = λ i lt made have.
    let parts = have_split (spec_at specs i) xs ys made have in
    subst (λ ps. AddsAt i ps start end) (sym parts.4)
    (adds_more parts.0 parts.1 (get_or start.runs i []) (get_or start.begun i []) (get_or middle.runs i []) (get_or middle.begun i [])
    (get_or end.runs i []) (get_or end.begun i []) (first i lt parts.0 parts.2) (then i lt parts.1 parts.3))

-- where each is empty, so is any
pub none_at : {X : Type 0} (begun : List (List X)) (i : ℕ) → All (λ xs. xs ≡ []) begun → get_or begun i [] ≡ []
none_at [] i all = refl
none_at (pairs ∷ begun) zero all = All-head (λ ps. ps ≡ []) pairs begun all
none_at (pairs ∷ begun) (suc i) all = none_at begun i (All-tail (λ ps. ps ≡ []) pairs begun all)

-- a single image, of which the first pairs are held
pub takes_first :
    (specs : List KeySpecValue) (image : ImageValue) (last : List ImageValue) (old new : Holdings) → last ≡ image ∷ [] → TakesPart specs image old new
    → TakesUpTo specs [] last old new
takes_first specs image last old new one part = λ i lt made next none have.
    let here : HavePairs (spec_at specs i) (image ∷ []) next = subst (λ xs. HavePairs (spec_at specs i) xs next) one have in
    let is : next ≡ here.0 = here.4 ∙ (ap (λ ps. here.0 ++ ps) here.3 ∙ append-nil here.0) in
    let its = part i lt here.0 here.2 in
    (its.0, its.1, is ∙ its.2, subst (λ (ps : List Pair). AddsAt i (ps ++ its.0) old new) (sym none) its.3)

-- an image of which nothing is held
pub takes_none : (specs : List KeySpecValue) (last : List ImageValue) (held : Holdings) → TakesUpTo specs [] last held held
takes_none specs last held = λ i lt made next none have.
    let its = first_none i next held in
    (its.0, its.1, its.2, subst (λ (ps : List Pair). AddsAt i (ps ++ its.0) held held) (sym none) its.3)

-- images, and then the first pairs of the last ones
pub takes_then :
    (specs : List KeySpecValue) (images last : List ImageValue) (start middle end : Holdings) → TakesAll specs images start middle
    → TakesUpTo specs [] last middle end → TakesUpTo specs images last start end
takes_then specs images last start middle end takes part = λ i lt made next have rest.
    let its = part i lt [] next refl rest in (
      its.0,
      its.1,
      its.2,
      adds_more made its.0 (get_or start.runs i []) (get_or start.begun i []) (get_or middle.runs i []) (get_or middle.begun i [])
          (get_or end.runs i []) (get_or end.begun i []) (takes i lt made have) its.3,
    )

-- with a run of fewer than 4,096 pairs behind them, if it has any
closed_few :
    (runs : List (List Pair)) (run : List Pair) → length run < 4096
    → (4096 * length runs + length run ≤ 4096 * length (with_closed_run runs run))
    × (4096 * length (with_closed_run runs run) < 4096 * length runs + length run + 4096)
closed_few runs [] short = (omega arith, omega arith)
closed_few runs (first ∷ run) short = (
  omega (arith, short, length_push runs (first ∷ run)),
  omega (arith, length_push runs (first ∷ run)),
)

-- where each has fewer, so has any
pub short_at : (begun : List (List Pair)) (i : ℕ) → All (λ pairs. length pairs < 4096) begun → length (get_or begun i []) < 4096
short_at [] i all = omega arith
short_at (pairs ∷ begun) zero all = All-head (λ (ps : List Pair). length ps < 4096) pairs begun all
short_at (pairs ∷ begun) (suc i) all = short_at begun i (All-tail (λ (ps : List Pair). length ps < 4096) pairs begun all)

-- images, and then what is in no run yet is spooled
pub takes_sealed :
    (specs : List KeySpecValue) (images : List ImageValue) (old middle : Holdings) (runs : List (List (List Pair))) (begun : List (List Pair))
    → TakesAll specs images old middle → length middle.begun ≡ length specs → All (λ pairs. length pairs < 4096) middle.begun → Seals middle runs
    → All (λ pairs. pairs ≡ []) begun → HoldsMore specs images old (record { runs = runs; begun = begun })
takes_sealed specs images old middle runs begun takes long short seals none = λ i lt made have.
    let old_runs : List (List Pair) = get_or middle.runs i [] in
    let old_begun : List Pair = get_or middle.begun i [] in
    let adds = takes i lt made have in
    let spooled = seals i (omega (arith, lt, long)) in
    let after : all_pairs (get_or runs i []) ++ get_or begun i [] ≡ all_pairs old_runs ++ spooled.run =
    ap₂ (λ (rs : List (List Pair)) (ps : List Pair). all_pairs rs ++ ps) spooled.closed (none_at begun i none)
    ∙ (append-nil (all_pairs (with_closed_run old_runs spooled.run)) ∙ all_closed old_runs spooled.run) in
    let same = length_permutation old_begun spooled.run spooled.same in
    let few = closed_few old_runs spooled.run (omega (arith, same, short_at middle.begun i short)) in
    let count = ap length spooled.closed in
    record {
      all = subst (λ ps. IsPermutation (held_at i old ++ made) ps) (sym after)
          (IsPermutation-trans _ _ _ adds.all (IsPermutation-append_right (all_pairs old_runs) old_begun spooled.run spooled.same));
      enough = omega (arith, adds.runs_many, same, few.0, count);
      few = omega (arith, adds.runs_many, same, few.1, count);
    }

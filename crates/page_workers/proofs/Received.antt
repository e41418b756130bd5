-- What a worker holds with the copies that it takes is the pairs of the images that it received.
use Rattle.std.proofs.Common.{◌≡◌, ℕ, ◌+◌, ◌<◌, List, [], ◌∷◌, ◌++◌, All, append_assoc, append-nil, get_or, length, take, refl, sym, ap₂, ◌∙◌, subst}
use Rattle.std.specs.Prelude.{IsPermutation}
use Rattle.std.proofs.lemmas.List.Sorted.{IsPermutation-append_left, IsPermutation-sym}
use Rattle.keybytes.specs.Keys.{KeySpecValue}
use Rattle.keybytes.specs.declared.kind.Kind.{Kind}
use Rattle.keybytes.specs.declared.pair.Pair.{Pair}
use Rattle.heap_table.specs.Images.{ImageValue, IsReadable}
use Rattle.run_maker.specs.FullSpools.{AreSomeOf}
use Rattle.run_maker.specs.Spooling.{HasFullRunsMore}
use Rattle.run_maker.specs.Making.{AreHeldWithCopy, Holdings, MakerValue, held_at, spec_at}
use Rattle.run_maker.proofs.FullSpools.{all_of}
use Rattle.page_workers.specs.declared.copied.Copied.{Copied}
use Rattle.page_workers.specs.Copies.{images_of}
use Rattle.page_workers.specs.Holding.{AreHeldWith, TakesAll}
use Rattle.page_workers.specs.ImagePairs.{HavePairs}
use Rattle.page_workers.specs.IntakeValue.{IntakeValue}
use Rattle.page_workers.specs.SpoolValue.{SpoolValue}
use Rattle.page_workers.specs.Taking.{received_images}
use Rattle.side_file.specs.Ends.{TakeEnd, after_taking}
use Rattle.page_workers.specs.Turns.{AreHeldWithTaken}
use Rattle.page_workers.specs.Work.{next_images}
use Rattle.page_workers.specs.WorkerValue.{IsHolding, holdings}
use Rattle.page_workers.proofs.Digests.{images_more}
use Rattle.page_workers.proofs.Keeping.{have_next}
use Rattle.page_workers.proofs.ManyPairs.{have_append, images-append}

-- with the images of its build that an end received come those that it takes
pub received_after :
    (n : ℕ) (kinds : List Kind) (old new : IntakeValue) → new.build ≡ old.build → new.end ≡ after_taking n old.end
    → received_images kinds new ≡ received_images kinds old ++ next_images n kinds old
received_after n kinds old new build end =
    ap₂ (λ (b : ℕ) (e : TakeEnd Copied). images_of b kinds e.received) build end ∙ images-append old.build kinds old.end.received (take n old.end.known)

-- what is held with a copy alone
pub with_copy :
    (specs : List KeySpecValue) (image : ImageValue) (images : List ImageValue) (held : Holdings) (i : ℕ) (pairs : List Pair) → images ≡ image ∷ []
    → AreHeldWithCopy specs image held i pairs → AreHeldWith specs images held i pairs
with_copy specs image images held i pairs alone are =
    let have : HavePairs (spec_at specs i) (image ∷ []) are.0 = (are.0, [], are.1, refl, sym (append-nil are.0)) in
    (are.0, subst (λ (xs : List ImageValue). HavePairs (spec_at specs i) xs are.0) (sym alone) have, are.2)

-- what is held after n copies, with the m behind them, is what was held before, with all of them
pub with_more :
    (n m : ℕ) (specs : List KeySpecValue) (kinds : List Kind) (worker middle : IntakeValue) (start held : Holdings) → All (λ spec. spec.kinds ≡ kinds) specs
    → All IsReadable (next_images n kinds worker) → TakesAll specs (next_images n kinds worker) start held → middle.build ≡ worker.build
    → middle.end ≡ after_taking n worker.end → (i : ℕ) → i < length specs → (pairs : List Pair) → AreHeldWith specs (next_images m kinds middle) held i pairs
    → (more : List Pair) × AreHeldWith specs (next_images (n + m) kinds worker) start i more × AreSomeOf pairs more
with_more n m specs kinds worker middle start held columns readable takes build end i lt pairs are =
    let spec = spec_at specs i in
    let first = have_next n worker kinds specs columns readable i lt in
    let made = first.0 ++ are.0 in
    let have : HavePairs spec (next_images (n + m) kinds worker) made =
    subst (λ (xs : List ImageValue). HavePairs spec xs made) (sym (images_more n m kinds worker middle build end))
    (have_append spec (next_images n kinds worker) (next_images m kinds middle) first.0 are.0 first.1 are.1) in
    let same : IsPermutation (held_at i held ++ are.0) (held_at i start ++ made) =
    subst (IsPermutation (held_at i held ++ are.0)) (append_assoc (held_at i start) first.0 are.0)
    (IsPermutation-append_left are.0 (held_at i held) (held_at i start ++ first.0)
    (IsPermutation-sym (held_at i start ++ first.0) (held_at i held) (takes i lt first.0 first.1).all)) in (
      held_at i start ++ made,
      (made, have, refl),
      subst (λ (ps : List Pair). AreSomeOf ps (held_at i start ++ made)) (sym are.2) (all_of (held_at i held ++ are.0) (held_at i start ++ made) same),
    )

-- each closed full runs alone
pub full_till :
    (n : ℕ) (specs : List KeySpecValue) (kinds : List Kind) (worker : IntakeValue) (start held : Holdings) → All (λ spec. spec.kinds ≡ kinds) specs
    → All IsReadable (next_images n kinds worker) → TakesAll specs (next_images n kinds worker) start held → (i : ℕ) → i < length specs
    → HasFullRunsMore (get_or start.runs i []) (get_or held.runs i [])
full_till n specs kinds worker start held columns readable takes i lt =
    let first = have_next n worker kinds specs columns readable i lt in
    (takes i lt first.0 first.1).full_runs

-- what a worker held, with the images that it took since, is the pairs of all images that it received
pub with_received :
    (intake after : IntakeValue) (maker new : MakerValue) (spools : List SpoolValue) → IsHolding intake maker spools → new.specs ≡ maker.specs
    → new.schema ≡ maker.schema → after.build ≡ intake.build → (i : ℕ) → i < length maker.specs → (pairs : List Pair)
    → AreHeldWithTaken maker.specs maker.schema intake after (holdings maker spools) i pairs
    → (more : List Pair) × HavePairs (spec_at new.specs i) (received_images new.schema after) more × AreSomeOf pairs more
with_received intake after maker new spools holds specs schema build i lt pairs are =
    let spec = spec_at maker.specs i in
    let held = holds.holds i lt in
    let taken = are.2 in
    let made = held.made ++ taken.0 in
    let have : HavePairs spec (received_images maker.schema after) made =
    subst (λ (xs : List ImageValue). HavePairs spec xs made) (sym (received_after are.0 maker.schema intake after build are.1))
    (have_append spec (received_images maker.schema intake) (next_images are.0 maker.schema intake) held.made taken.0 held.have taken.1) in
    let same : IsPermutation (held_at i (holdings maker spools) ++ taken.0) made =
    IsPermutation-append_left taken.0 (held_at i (holdings maker spools)) held.made (IsPermutation-sym held.made (held_at i (holdings maker spools)) held.all) in (
      made,
      rw (specs, schema) have,
      subst (λ (ps : List Pair). AreSomeOf ps made) (sym taken.2) (all_of (held_at i (holdings maker spools) ++ taken.0) made same),
    )

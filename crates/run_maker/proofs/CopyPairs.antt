-- The pairs on a copy of a page, slot by slot.
use Rattle.std.proofs.Common.{◌≡◌, ℕ, zero, suc, zero-add, ◌+◌, ◌-◌, ◌<◌, false, List, [], ◌∷◌, ◌++◌, All, append_assoc, append-nil, length, Option, Some, None}
use Rattle.std.proofs.Common.{refl, sym, ap, ◌∙◌, subst, arith}
use Rattle.std.specs.Prelude.{IsPermutation, filter_map}
use Rattle.std.specs.List.{range_with_len, cons_option}
use Rattle.std.specs.Option.{option_to_list}
use Rattle.std.proofs.lemmas.List.Elements.{filter_map-append}
use Rattle.std.proofs.lemmas.List.Sorted.{IsPermutation-append_left, IsPermutation-sym}
use Rattle.keybytes.specs.Keys.{KeySpecValue}
use Rattle.keybytes.specs.Pairs.{pair_with}
use Rattle.keybytes.specs.declared.cell.Cell.{Cell}
use Rattle.keybytes.specs.declared.kind.Kind.{Kind}
use Rattle.keybytes.specs.declared.pair.Pair.{Pair}
use Rattle.heap_table.specs.Images.{ImageValue, HasRows, Shows, image_slot}
use Rattle.heap_table.specs.Pages.{rid_at}
use Rattle.heap_table.proofs.KeptFacts.{range_more}
use Rattle.run_maker.specs.FullSpools.{AreSomeOf}
use Rattle.run_maker.specs.ImagePairs.{HasPairs}
use Rattle.run_maker.specs.Making.{AreHeldWithCopy, AreHeldWithRow, Holdings, held_at, spec_at}
use Rattle.run_maker.proofs.FullSpools.{all_of, first_of, some_of_some}

-- the pairs of the rows in the first slots of a page
abbrev pub pairs_before : KeySpecValue → ℕ → (ℕ → Option (List Cell)) → ℕ → List Pair
pairs_before spec page rows slots = filter_map (λ slot. pair_with spec (rid_at page slot) (rows slot)) (range_with_len 0 slots)

-- what one element gives is all
alone : {X : Type 0} (o : Option X) → cons_option o [] ≡ option_to_list o
alone None = refl
alone (Some x) = refl

-- the rows of which these are the pairs stand in the slots of a page with an index's columns
pub shows_in :
    (kinds : List Kind) (image : ImageValue) (spec : KeySpecValue) → spec.kinds ≡ kinds → (made : List Pair) (has : HasPairs spec image made) (slot : ℕ)
    → Shows kinds (image_slot image slot) (has.rows slot)
shows_in kinds image spec columns made has slot = subst (λ (ks : List Kind). Shows ks (image_slot image slot) (has.rows slot)) columns (has.shows slot)

-- the pairs up to a slot, and those up to the next one
pub slot_more :
    (spec : KeySpecValue) (page : ℕ) (rows : ℕ → Option (List Cell)) (slot : ℕ) (o : Option Pair) → pair_with spec (rid_at page slot) (rows slot) ≡ o
    → pairs_before spec page rows (slot + 1) ≡ pairs_before spec page rows slot ++ option_to_list o
slot_more spec page rows slot o is =
    let pair : ℕ → Option Pair = λ slot. pair_with spec (rid_at page slot) (rows slot) in
    let more : range_with_len 0 (slot + 1) ≡ range_with_len 0 slot ++ slot ∷ [] =
    range_more 0 slot ∙ ap (λ k. range_with_len 0 slot ++ k ∷ []) (zero-add slot) in
    ap (filter_map pair) more
    ∙ filter_map-append pair (range_with_len 0 slot) (slot ∷ [])
    ∙ ap (λ x. pairs_before spec page rows slot ++ cons_option x []) is
    ∙ ap (λ ps. pairs_before spec page rows slot ++ ps) (alone o)

-- the pairs up to a slot are the first of those up to a later one
later_slots :
    (spec : KeySpecValue) (page : ℕ) (rows : ℕ → Option (List Cell)) (slots more : ℕ)
    → (rest : List Pair) × (pairs_before spec page rows (slots + more) ≡ pairs_before spec page rows slots ++ rest)
later_slots spec page rows slots zero =
    let same : slots + 0 ≡ slots = omega arith in
    ([], ap (pairs_before spec page rows) same ∙ sym (append-nil (pairs_before spec page rows slots)))
later_slots spec page rows slots (suc more) =
    let last = pair_with spec (rid_at page (slots + more)) (rows (slots + more)) in
    let next : slots + suc more ≡ (slots + more) + 1 = omega arith in
    let was = later_slots spec page rows slots more in (
      was.0 ++ option_to_list last,
      ap (pairs_before spec page rows) next ∙ slot_more spec page rows (slots + more) last refl ∙ ap (λ (ps : List Pair). ps ++ option_to_list last) was.1
          ∙ append_assoc (pairs_before spec page rows slots) was.0 (option_to_list last),
    )

-- the pairs up to a slot, its own, and those of the slots behind it
pub around_slot :
    (spec : KeySpecValue) (page : ℕ) (rows : ℕ → Option (List Cell)) (slot slots : ℕ) → slot < slots
    → (rest : List Pair) × (pairs_before spec page rows slots ≡ (pairs_before spec page rows slot ++ option_to_list (pair_with spec (rid_at page slot) (rows slot))) ++ rest)
around_slot spec page rows slot slots inside =
    let own = pair_with spec (rid_at page slot) (rows slot) in
    let later = later_slots spec page rows (slot + 1) (slots - (slot + 1)) in
    let count : slots ≡ (slot + 1) + (slots - (slot + 1)) = omega (arith, inside) in (
      later.0,
      ap (pairs_before spec page rows) count ∙ later.1 ∙ ap (λ (ps : List Pair). ps ++ later.0) (slot_more spec page rows slot own refl),
    )

-- on a copy with these rows
module _
    (specs : List KeySpecValue) (kinds : List Kind) (image : ImageValue) (rows : ℕ → Option (List Cell)) (are : HasRows kinds image rows)
    (columns : All (λ spec. spec.kinds ≡ kinds) specs) (i : ℕ) (lt : i < length specs) where
  -- an index has these pairs
  abbrev pub has_pairs : HasPairs (spec_at specs i) image (pairs_before (spec_at specs i) image.page rows (length image.slots))
  has_pairs =
      let its : (spec_at specs i).kinds ≡ kinds = columns i (record { kinds = []; columns = []; unique = false; condition = None }) lt in
      record {
        rows = rows;
        shows = λ slot. subst (λ (ks : List Kind). Shows ks (image_slot image slot) (rows slot)) (sym its) (are slot);
        pairs_are = refl;
      }

  -- what is held with the pair of a row on it is some of what was held before the copy, with the copy's pairs
  pub of_copy :
      (slot : ℕ) → slot < length image.slots → (old now : Holdings)
      → IsPermutation (held_at i old ++ pairs_before (spec_at specs i) image.page rows slot) (held_at i now)
      → (pairs : List Pair) → AreHeldWithRow specs (rid_at image.page slot) (rows slot) now i pairs
      → (more : List Pair) × AreHeldWithCopy specs image old i more × AreSomeOf pairs more
  of_copy slot inside old now held pairs are =
      let spec = spec_at specs i in
      let before = pairs_before spec image.page rows slot in
      let last : List Pair = option_to_list (pair_with spec (rid_at image.page slot) (rows slot)) in
      let made = pairs_before spec image.page rows (length image.slots) in
      let later = around_slot spec image.page rows slot (length image.slots) inside in
      let all : held_at i old ++ made ≡ ((held_at i old ++ before) ++ last) ++ later.0 =
      ap (λ (ps : List Pair). held_at i old ++ ps) (later.1 ∙ append_assoc before last later.0) ∙ sym (append_assoc (held_at i old) before (last ++ later.0))
      ∙ sym (append_assoc (held_at i old ++ before) last later.0) in
      let some : AreSomeOf pairs ((held_at i old ++ before) ++ last) =
      subst (λ (ps : List Pair). AreSomeOf ps ((held_at i old ++ before) ++ last)) (sym are)
      (all_of (held_at i now ++ last) ((held_at i old ++ before) ++ last)
      (IsPermutation-append_left last (held_at i now) (held_at i old ++ before) (IsPermutation-sym (held_at i old ++ before) (held_at i now) held))) in (
        held_at i old ++ made,
        (made, has_pairs, refl),
        some_of_some pairs ((held_at i old ++ before) ++ last) (held_at i old ++ made) some (first_of ((held_at i old ++ before) ++ last) later.0 (held_at i old ++ made) all),
      )

-- What a slot that shows a row is read as.
use Rattle.std.proofs.Common.{◌≡◌, inl, inr, ℕ, List, [], get_or, Option, Some, None, refl, sym, ap, ◌∙◌, subst}
use Rattle.std.specs.Prelude.{IsSome}
use Rattle.std.proofs.lemmas.Option.{same_Some}
use Rattle.keybytes.specs.Rows.{row_bytes, Spells, RefusesReading}
use Rattle.keybytes.specs.declared.cell.Cell.{Cell}
use Rattle.keybytes.specs.declared.kind.Kind.{Kind}
use Rattle.keybytes.specs.declared.fault.Fault.{Fault}
use Rattle.keybytes.specs.declared.fault.Fault.TheVariants.{Memory}
use Rattle.slotted_page.specs.Slot.{Slot, bytes_of, free}
use Rattle.slotted_page.specs.Image.{slots_in}
use Rattle.heap_table.specs.HeapState.{row_missing}
use Rattle.heap_table.specs.Images.{Shows, ImageValue, IsReadable, image_slot}

-- a slot with no bytes shows no row
pub shows_none : (kinds : List Kind) (slot : Slot) (cells : Option (List Cell)) → bytes_of slot ≡ None → Shows kinds slot cells → None ≡ cells
shows_none kinds slot None none shows = refl
shows_none kinds slot (Some row) none shows = absurd (cc (sym none ∙ shows.bytes))

-- the bytes of a slot that shows a row spell it
pub shows_spelled :
    (kinds : List Kind) (slot : Slot) (bytes : List ℕ) (cells : Option (List Cell)) → bytes_of slot ≡ Some bytes → Shows kinds slot cells
    → (row : List Cell) × ((cells ≡ Some row) × Spells kinds bytes row)
shows_spelled kinds slot bytes None some shows = absurd (cc (sym some ∙ shows.bytes))
shows_spelled kinds slot bytes (Some row) some shows =
    let same : bytes ≡ row_bytes row = same_Some bytes (row_bytes row) (sym some ∙ shows.bytes) in
    (row, (refl, subst (λ (bs : List ℕ). Spells kinds bs row) (sym same) shows.spells))

-- such bytes are refused for want of memory alone
pub spelled_memory :
    (kinds : List Kind) (bytes : List ℕ) (row : List Cell) (fault : Fault) → Spells kinds bytes row
    → RefusesReading kinds bytes fault → fault ≡ Memory
spelled_memory kinds bytes row fault spells (inl refused) = absurd (refused.none row spells)
spelled_memory kinds bytes row fault spells (inr wants) = wants.0

-- what a slot of a copy has, by the copy's bytes
pub seen_bytes :
    (image : ImageValue) (page slot : ℕ) (bytes value : List ℕ) (kinds : List Kind) (found : Option (List ℕ))
    → (let view : ImageValue = record { page = page; slots = slots_in value; schema = kinds } in view ≡ image) → bytes ≡ value
    → bytes_of (get_or (slots_in bytes) slot free) ≡ found → bytes_of (image_slot image slot) ≡ found
seen_bytes image page slot bytes value kinds found view_is same seen =
    ap (λ (v : ImageValue). bytes_of (image_slot v slot)) (sym view_is)
    ∙ (ap (λ (b : List ℕ). bytes_of (get_or (slots_in b) slot free)) (sym same) ∙ seen)

-- a copy with no slot has no row to read
pub empty_readable : (image : ImageValue) → image.slots ≡ [] → IsReadable image
empty_readable image none = (
  λ _. None,
  λ slot. record { bytes = ap (λ (slots : List Slot). bytes_of (get_or slots slot free)) none; spells = tt },
)

-- a row that stands is not missing
pub not_missing : (row : Option (List Cell)) → IsSome row → row_missing row ≡ None
not_missing None there = absurd cc
not_missing (Some cells) there = refl

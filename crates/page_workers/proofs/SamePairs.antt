-- A copy has one list of pairs: its bytes tell its rows.
use Rattle.std.proofs.Common.{◌≡◌, ℕ, List, [], ◌∷◌, ◌++◌, length, Option, Some, None, refl, sym, ap, ap₂, ◌∙◌, subst}
use Rattle.std.specs.Prelude.{filter_map}
use Rattle.std.specs.List.{range_with_len, cons_option}
use Rattle.std.proofs.lemmas.Bool.{and_parts}
use Rattle.std.proofs.lemmas.Option.{same_Some}
use Rattle.std.proofs.lemmas.List.Elements.{All-head, All-tail}
use Rattle.keybytes.specs.Cells.{IsCell, fits, fits_kind}
use Rattle.keybytes.specs.Keys.{KeySpecValue}
use Rattle.keybytes.specs.Pairs.{pair_with}
use Rattle.keybytes.specs.Rows.{BeginsWith, Spells, row_bytes}
use Rattle.keybytes.specs.declared.cell.Cell.{Cell}
use Rattle.keybytes.specs.declared.kind.Kind.{Kind}
use Rattle.keybytes.specs.declared.pair.Pair.{Pair}
use Rattle.keybytes.proofs.Reading.{same_cell}
use Rattle.heap_table.specs.Images.{ImageValue, Shows, image_slot}
use Rattle.heap_table.specs.Pages.{rid_at}
use Rattle.slotted_page.specs.Slot.{Slot}
use Rattle.run_maker.specs.ImagePairs.{HasPairs}
use Rattle.page_workers.specs.ImagePairs.{HavePairs}

-- the first cell of a row, with the bytes of the others behind it
begins :
    (kind : Kind) (kinds : List Kind) (bytes : List ℕ) (cell : Cell) (cells : List Cell) → Spells (kind ∷ kinds) bytes (cell ∷ cells)
    → BeginsWith kind bytes cell (row_bytes cells)
begins kind kinds bytes cell cells spells = record {
  held = All-head IsCell cell cells spells.held;
  fitting = (and_parts (fits_kind kind cell) (fits kinds cells) spells.fitting).0;
  bytes_are = spells.bytes_are;
}

-- and the others
others :
    (kind : Kind) (kinds : List Kind) (bytes : List ℕ) (cell : Cell) (cells : List Cell) → Spells (kind ∷ kinds) bytes (cell ∷ cells)
    → Spells kinds (row_bytes cells) cells
others kind kinds bytes cell cells spells = record {
  held = All-tail IsCell cell cells spells.held;
  fitting = (and_parts (fits_kind kind cell) (fits kinds cells) spells.fitting).1;
  bytes_are = refl;
}

-- bytes spell one row
pub same_row : (kinds : List Kind) (bytes : List ℕ) (a b : List Cell) → Spells kinds bytes a → Spells kinds bytes b → a ≡ b
same_row [] bytes [] [] p q = refl
same_row [] bytes (x ∷ xs) b p q = absurd (cc (p.fitting))
same_row [] bytes [] (y ∷ ys) p q = absurd (cc (q.fitting))
same_row (kind ∷ kinds) bytes [] b p q = absurd (cc (p.fitting))
same_row (kind ∷ kinds) bytes (x ∷ xs) [] p q = absurd (cc (q.fitting))
same_row (kind ∷ kinds) bytes (x ∷ xs) (y ∷ ys) p q =
    let first = same_cell kind x y (row_bytes xs) (row_bytes ys) bytes (begins kind kinds bytes x xs p) (begins kind kinds bytes y ys q) in
    let rest : xs ≡ ys = same_row kinds (row_bytes xs) xs ys (others kind kinds bytes x xs p)
    (subst (λ (bs : List ℕ). Spells kinds bs ys) (sym first.1) (others kind kinds bytes y ys q)) in
    ap₂ ◌∷◌ first.0 rest

-- a slot shows one row, or none
pub same_shown : (kinds : List Kind) (slot : Slot) (a b : Option (List Cell)) → Shows kinds slot a → Shows kinds slot b → a ≡ b
same_shown kinds slot None None p q = refl
same_shown kinds slot None (Some row) p q = absurd (cc (sym p.bytes ∙ q.bytes))
same_shown kinds slot (Some row) None p q = absurd (cc (sym p.bytes ∙ q.bytes))
same_shown kinds slot (Some a) (Some b) p q =
    let same : row_bytes a ≡ row_bytes b = same_Some (row_bytes a) (row_bytes b) (sym p.bytes ∙ q.bytes) in
    ap Some (same_row kinds (row_bytes b) a b (subst (λ (bs : List ℕ). Spells kinds bs a) same p.spells) q.spells)

-- the same rows have the same pairs
same_pairs :
    (spec : KeySpecValue) (page : ℕ) (f g : ℕ → Option (List Cell)) (slots : List ℕ) → ((slot : ℕ) → f slot ≡ g slot)
    → filter_map (λ slot. pair_with spec (rid_at page slot) (f slot)) slots ≡ filter_map (λ slot. pair_with spec (rid_at page slot) (g slot)) slots
same_pairs spec page f g [] same = refl
same_pairs spec page f g (slot ∷ slots) same =
    ap₂ (λ o ps. cons_option (pair_with spec (rid_at page slot) o) ps) (same slot) (same_pairs spec page f g slots same)

-- a copy has one list of pairs
pub has_same : (spec : KeySpecValue) (image : ImageValue) (a b : List Pair) → HasPairs spec image a → HasPairs spec image b → a ≡ b
has_same spec image a b p q =
    p.pairs_are
    ∙ (same_pairs spec image.page p.rows q.rows (range_with_len 0 (length image.slots))
    (λ slot. same_shown spec.kinds (image_slot image slot) (p.rows slot) (q.rows slot) (p.shows slot) (q.shows slot))
    ∙ sym q.pairs_are)

-- and so have several
pub have_same : (spec : KeySpecValue) (images : List ImageValue) (a b : List Pair) → HavePairs spec images a → HavePairs spec images b → a ≡ b
have_same spec [] a b p q = p ∙ sym q
have_same spec (image ∷ images) a b p q =
    p.4 ∙ (ap₂ ◌++◌ (has_same spec image p.0 q.0 p.2 q.2) (have_same spec images p.1 q.1 p.3 q.3) ∙ sym q.4)

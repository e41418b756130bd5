-- A change that is ready can be performed.
use Rattle.std.proofs.Common.{◌≡◌, inl, inr, ℕ, ◌+◌, ◌<◌, ◌≤◌, Bool, true, List, length, Option, Some, None, IfSome, refl, sym, ap, ◌∙◌, subst, arith}
use Rattle.std.specs.Prelude.{IsSome, if◌then◌else◌}
use Rattle.std.specs.Option.{option_map}
use Rattle.std.proofs.lemmas.Bool.{cases_Bool}
use Rattle.std.proofs.lemmas.Option.{same_Some}
use Rattle.keybytes.proofs.FirstCause.{both_none}
use Rattle.keybytes.specs.Cells.{fits}
use Rattle.keybytes.specs.Rows.{IsRow, row_bytes, shape_refusal}
use Rattle.keybytes.specs.declared.cell.Cell.{Cell}
use Rattle.keybytes.specs.declared.kind.Kind.{Kind}
use Rattle.keybytes.specs.declared.fault.Fault.TheVariants.{PageFull}
use Rattle.keybytes.specs.declared.rid.Rid.{Rid}
use Rattle.heap_log.specs.declared.record.LogRec.{LogRec}
use Rattle.heap_log.specs.declared.record.LogRec.TheVariants.{Undo}
use Rattle.heap_log.specs.Standing.{record_at, row_of, rid_of, undone, is_write_at, stands_of, live_at, row_at, newest_standing, standing_before}
use Rattle.heap_log.specs.Standing.{standing_count, newest_at}
use Rattle.heap_log.proofs.Last.{IsLast, last_below_some}
use Rattle.heap_log.proofs.Numbers.{newest_standing-of}
use Rattle.slotted_page.specs.Slot.{Slot, reserve_of, IsRow as HasRow, IsHeld, IsTaken}
use Rattle.slotted_page.specs.Page.{PageValue, room_for, fits_at}
use Rattle.heap_table.specs.declared.ready.Ready.{Ready}
use Rattle.heap_table.specs.HeapState.{HeapState, is_open, still_open, page_of, held_refusal, growth_refusal, row_missing, new_row_refusal}
use Rattle.heap_table.specs.HeapValue.{HeapValue}
use Rattle.heap_table.specs.Holders.{holder, row_size, room_needed}
use Rattle.heap_table.specs.Kept.{IsKept, WritesFit, IsTableRow}
use Rattle.heap_table.specs.PageLists.{PagesValue, new_page, page_or_new, slot_in, with_slot_in, changed}
use Rattle.heap_table.specs.Pages.{pages_written, slots_written, slot_with, slot_of}
use Rattle.heap_table.specs.Ready.{IsSized, IsLawful, IsReady, CanWrite, CanRestore, IsLawfulChange}
use Rattle.heap_log.proofs.Growing.{Grows}
use Rattle.heap_table.proofs.Holding.{holder_is}
use Rattle.heap_table.proofs.KeptFacts.{goes_to, kept_count, kept_page, kept_page_or_new, kept_slot, fits_accepted}
use Rattle.heap_table.proofs.LogRows.{rows_are_inside, slot_free}
use Rattle.heap_table.proofs.OpenOnes.{open_accepted, still_fewer}
use Rattle.heap_table.proofs.Slots.{at_its_rid, reserve_slot}
use Rattle.heap_table.proofs.Sounds.{sound_undo}
use Rattle.heap_table.proofs.Undoing.{Undid}
use Rattle.heap_table.proofs.Writers.{wrote_from}

-- a row that stands is in its slot
pub row_there : (log : List LogRec) (rid : Rid) (cells : List Cell) → live_at log rid ≡ Some cells → HasRow (slot_of log rid)
row_there log rid cells stands = rw stands tt

-- a change of a RID that no other transaction holds, of a row that fits, in a place that is
pub record CanChange (s : HeapState) (txn : ℕ) (rid : Rid) (new : Option (List Cell)) : Type 0 where
  pub opened : is_open s.active txn ≡ true
  pub free_for : held_refusal txn (holder s.log rid) ≡ None
  pub page : rid.page ≤ pages_written s.log
  pub slot : rid.slot ≤ slots_written s.log rid.page
  pub below : rid.page < s.page_limit
  pub fit : (cells : List Cell) → new ≡ Some cells → IsRow cells × (fits s.schema cells ≡ true)

-- where a row stands is a place
standing_place : (s : HeapState) (p : PagesValue) (rid : Rid) (cells : List Cell) → IsKept s p → live_at s.log rid ≡ Some cells
    → (rid.page < pages_written s.log) × ((rid.slot < slots_written s.log rid.page) × (rid.page < s.page_limit))
standing_place s p rid cells kept stands =
    let inside = rows_are_inside s.log in
    let page = inside.page rid cells stands in
    (page, (inside.slot rid cells stands, omega (arith, page, kept.within)))

if_some : (o : Option (List Cell)) (P : List Cell → Type 0) → ((cells : List Cell) → o ≡ Some cells → P cells) → IfSome o P
if_some None P each = tt
if_some (Some cells) P each = each cells refl

pub can_change :
    (s : HeapState) (p : PagesValue) (txn : ℕ) (rid : Rid) (old new : Option (List Cell)) → IsKept s p → old ≡ live_at s.log rid → IfSome new IsSized
    → IsLawful s txn rid None old new → CanChange s txn rid new
can_change s p txn rid None None kept is sized lawful = absurd lawful
can_change s p txn rid None (Some new) kept is sized lawful =
    let goes = goes_to s p (length (row_bytes new)) rid kept sized.1 lawful.1 in
    let causes = both_none _ _ lawful.0 in
    let early = both_none _ _ causes.0 in
    record {
      opened = open_accepted s txn early.0;
      free_for = ap (held_refusal txn) (slot_free s.log rid goes.empty).1;
      page = goes.page;
      slot = goes.slot;
      below = goes.limit;
      fit = λ cells e. (subst IsRow (same_Some new cells e) sized.0, ap (fits s.schema) (sym (same_Some new cells e)) ∙ fits_accepted s.schema new early.1);
    }
can_change s p txn rid (Some old) None kept is sized lawful =
    let place = standing_place s p rid old kept (sym is) in
    let causes = both_none _ _ lawful in
    let rest = both_none _ _ causes.1 in
    record {
      opened = open_accepted s txn causes.0;
      free_for = rest.0;
      page = omega (arith, place.0);
      slot = omega (arith, place.1.0);
      below = place.1.1;
      fit = λ cells e. absurd (cc);
    }
can_change s p txn rid (Some old) (Some new) kept is sized lawful =
    let place = standing_place s p rid old kept (sym is) in
    let causes = both_none _ _ lawful in
    let early = both_none _ _ causes.0 in
    let rest = both_none _ _ causes.1 in
    record {
      opened = open_accepted s txn early.0;
      free_for = rest.0;
      page = omega (arith, place.0);
      slot = omega (arith, place.1.0);
      below = place.1.1;
      fit = λ cells e. (subst IsRow (same_Some new cells e) sized.0, ap (fits s.schema) (sym (same_Some new cells e)) ∙ fits_accepted s.schema new early.1);
    }

-- the room that an accepted update has
grows : (s : HeapState) (rid : Rid) (size : ℕ) → growth_refusal s rid size ≡ None → fits_at (page_of s rid.page) rid.slot size ≡ true
grows s rid size e = elim (cases_Bool (fits_at (page_of s rid.page) rid.slot size)) [
  | inl fits ↦ fits
  | inr full ↦ absurd (refused (sym (ap (λ (b : Bool). if b then None else Some PageFull) full) ∙ e))
] where
  refused : Some PageFull ≡ None → ⊥
  refused f = cc

pub page_there : (s : HeapState) (p : PagesValue) (rid : Rid) (cells : List Cell) (limit : ℕ) → IsKept s p → live_at s.log rid ≡ Some cells
    → page_or_new p.pages limit rid.page ≡ page_of s rid.page
page_there s p rid cells limit kept stands =
    let place = standing_place s p rid cells kept stands in
    kept_page s p rid.page (new_page limit) kept (omega (arith, place.0, kept_count s p kept))

pub can_write :
    (s : HeapState) (p : PagesValue) (txn : ℕ) (rid : Rid) (old new : Option (List Cell)) → IsKept s p → 0 < p.spare → old ≡ live_at s.log rid
    → IfSome new IsSized
    → IsLawful s txn rid None old new → CanWrite p rid old new
can_write s p txn rid None None kept memory is sized lawful = lawful
can_write s p txn rid None (Some new) kept memory is sized lawful =
    let goes = goes_to s p (length (row_bytes new)) rid kept sized.1 lawful.1 in (
      omega (arith, goes.page, kept_count s p kept),
      ap (λ (q : PageValue). room_for q (length (row_bytes new))) (kept_page_or_new s p rid.page kept goes.page) ∙ goes.room,
      memory,
      ap reserve_of (kept_slot s p rid kept ∙ goes.empty),
    )
can_write s p txn rid (Some old) None kept memory is sized lawful =
    subst HasRow (sym (kept_slot s p rid kept)) (row_there s.log rid old (sym is))
can_write s p txn rid (Some old) (Some new) kept memory is sized lawful =
    let causes = both_none (new_row_refusal s txn new) _ lawful in
    let rest = both_none (held_refusal txn (holder s.log rid)) _ causes.1 in
    let growth = both_none (row_missing (live_at s.log rid)) (growth_refusal s rid (length (row_bytes new))) rest.1 in (
      subst HasRow (sym (kept_slot s p rid kept)) (row_there s.log rid old (sym is)),
      ap (λ (q : PageValue). fits_at q rid.slot (length (row_bytes new))) (page_there s p rid old 0 kept (sym is))
          ∙ grows s rid (length (row_bytes new)) growth.1,
    )

-- the write that an undo takes back is held, and the row before it fits
pub record CanUndo (s : HeapState) (txn n : ℕ) (rid : Rid) : Type 0 where
  pub holder : holder s.log rid ≡ Some txn
  pub size : row_size (row_at s.log (standing_before s.log n)) ≤ room_needed s.log rid

can_undo :
    (s : HeapState) (p : PagesValue) (txn n : ℕ) (rid : Rid) → IsKept s p → is_open s.active txn ≡ true → newest_standing s.log txn ≡ Some n
    → rid ≡ rid_of (record_at s.log n) → CanUndo s txn n rid
can_undo s p txn n rid kept opened newest place =
    let by = newest_standing-of s.log txn n newest in
    let there : is_write_at rid (record_at s.log n) ≡ true = rw place (at_its_rid txn (record_at s.log n) by) in
    let held_by = holder_is s kept.sound rid txn opened (wrote_from s.log txn rid n by there) in
    let last : IsLast (stands_of s.log txn) (length s.log + 1) n = last_below_some (stands_of s.log txn) (length s.log + 1) n newest in
    record { holder = held_by; size = kept.undo_fits.before txn n rid held_by last.passes there }

pub can_restore :
    (s : HeapState) (p : PagesValue) (txn n : ℕ) (rid : Rid) (old new : Option (List Cell)) → IsKept s p → old ≡ live_at s.log rid
    → IsLawful s txn rid (Some n) old new → CanRestore p rid old new
can_restore s p txn n rid old new kept is lawful =
    let can = can_undo s p txn n rid kept lawful.0 lawful.1 lawful.2 in
    let slot : slot_in p.pages rid ≡ slot_with old (Some txn) (room_needed s.log rid) =
    kept_slot s p rid kept ∙ (ap (λ (cells : Option (List Cell)). slot_with cells (holder s.log rid) (room_needed s.log rid)) (sym is)
    ∙ ap (λ (h : Option ℕ). slot_with old h (room_needed s.log rid)) can.holder) in
    let size : row_size new ≤ reserve_of (slot_in p.pages rid) =
    (let reserve = ap reserve_of (kept_slot s p rid kept) ∙ reserve_slot s.log rid in let fits = can.size in let same = ap row_size lawful.3 in
    omega (arith, reserve, fits, same)) in
    by old new (slot_in p.pages rid) (room_needed s.log rid) slot size where
      by : (old new : Option (List Cell)) (x : Slot) (reserve : ℕ) → slot_in p.pages rid ≡ slot_with old (Some txn) reserve
          → row_size new ≤ reserve_of (slot_in p.pages rid) → CanRestore p rid old new
      by None None x reserve is size = subst IsHeld (sym is) tt
      by (Some cells) None x reserve is size = subst HasRow (sym is) tt
      by None (Some new) x reserve is size = (subst IsTaken (sym is) tt, size)
      by (Some cells) (Some new) x reserve is size = (subst IsTaken (sym is) tt, size)

-- a row that was written is one of the table's columns
written_fits : (kinds : List Kind) (log : List LogRec) (place : Option ℕ) → WritesFit kinds log → IfSome (row_at log place) (IsTableRow kinds)
written_fits kinds log None fit = tt
written_fits kinds log (Some n) fit = if_some (row_of (record_at log n)) (IsTableRow kinds) (fit n)

-- and passes their test
pub shape_written :
    (kinds : List Kind) (log : List LogRec) (place : Option ℕ) → WritesFit kinds log → IfSome (row_at log place) (λ cells. shape_refusal kinds cells ≡ None)
shape_written kinds log place fit = accepted (row_at log place) (written_fits kinds log place fit) where
  accepted : (cells : Option (List Cell)) → IfSome cells (IsTableRow kinds) → IfSome cells (λ row. shape_refusal kinds row ≡ None)
  accepted None fits_it = tt
  accepted (Some row) fits_it = rw fits_it.1 refl

new_fits :
    (s : HeapState) (p : PagesValue) (txn : ℕ) (rid : Rid) (undone : Option ℕ) (old new : Option (List Cell)) → IsKept s p → old ≡ live_at s.log rid
    → IfSome new IsSized
    → IsLawful s txn rid undone old new → IfSome new (IsTableRow s.schema)
new_fits s p txn rid None old new kept is sized lawful = if_some new (IsTableRow s.schema) (can_change s p txn rid old new kept is sized lawful).fit
new_fits s p txn rid (Some n) old new kept is sized lawful =
    subst (λ (row : Option (List Cell)). IfSome row (IsTableRow s.schema)) (sym lawful.3)
    (written_fits s.schema s.log (standing_before s.log n) kept.writes_fit)

-- what is ready for a table's value, told of its fields
pub ready_inside : (h g : HeapValue) (ready : Ready) → h ≡ g → IsReady g ready → IsReady h ready
ready_inside h g ready is is_ready = subst (λ (x : HeapValue). IsReady x ready) (sym is) is_ready

-- a ready change is lawful as what it is: a write, or the undo of the write of that number
pub lawful_as : (h : HeapValue) (ready : Ready) (number : Option ℕ) → IsReady h ready → ready.undone ≡ number
    → IsLawful h.state ready.txn ready.rid number ready.old ready.new
lawful_as h ready number is_ready same = subst (λ (o : Option ℕ). IsLawful h.state ready.txn ready.rid o ready.old ready.new) same is_ready.lawful

-- what holds of a change that is made ready
pub lawful_change : (h : HeapValue) (p : PagesValue) (ready : Ready) → IsReady h ready → IsKept h.state p → IsLawfulChange h.state ready
lawful_change h p ready is kept = record {
  old_fits = subst (λ (row : Option (List Cell)). IfSome row (IsTableRow h.state.schema)) (sym is.old)
      (written_fits h.state.schema h.state.log (newest_at h.state.log ready.rid) kept.writes_fit);
  new_fits = new_fits h.state p ready.txn ready.rid ready.undone ready.old ready.new kept is.old is.new is.lawful;
  writer = λ none.
      let can = can_change h.state p ready.txn ready.rid ready.old ready.new kept is.old is.new (lawful_as h ready None is none) in
      record { opened = can.opened; free = can.free_for };
}

-- the row of a RID that has one
pub some_row : (log : List LogRec) (rid : Rid) → IsSome (live_at log rid) → (cells : List Cell) × (live_at log rid ≡ Some cells)
some_row log rid some = by (live_at log rid) some where
  by : (o : Option (List Cell)) → IsSome o → (cells : List Cell) × (o ≡ Some cells)
  by None e = absurd (cc)
  by (Some cells) e = (cells, refl)

-- a ready undo undoes its write
pub undid_from :
    (h : HeapValue) (t : HeapState) (p : PagesValue) (ready : Ready) (n : ℕ) → IsReady h ready → IsKept h.state p → ready.undone ≡ Some n
    → Grows h.state.log (Undo ready.txn n) t.log → t.active ≡ still_open ready.txn (standing_count t.log ready.txn) h.state.active → t.begun ≡ h.state.begun
    → Undid h.state t ready.txn n ready.rid
undid_from h t p ready n is_ready kept undone added active begun =
    let lawful = lawful_as h ready (Some n) is_ready undone in
    record {
      was = kept.sound;
      sound = sound_undo h.state t ready.txn n kept.sound added active begun lawful.1 lawful.0;
      fits = kept.undo_fits;
      added = added;
      fewer = λ other e. still_fewer ready.txn other (standing_count t.log ready.txn) h.state.active lawful.0 (sym (ap (λ a. is_open a other) active) ∙ e);
      newest = lawful.1;
      opened = lawful.0;
      place = lawful.2;
    }

-- the pages once a ready undo has put its row back
pub undone_row :
    (h : HeapValue) (ready : Ready) (n : ℕ) (pages mid : List PageValue) (limit : ℕ) → IsReady h ready → ready.undone ≡ Some n
    → mid ≡ with_slot_in pages limit ready.rid (changed (slot_in pages ready.rid) (option_map row_bytes ready.new))
    → mid ≡ with_slot_in pages limit ready.rid (changed (slot_in pages ready.rid) (option_map row_bytes (row_at h.state.log (standing_before h.state.log n))))
undone_row h ready n pages mid limit is_ready undone is =
    is ∙ ap (λ (new : Option (List Cell)). with_slot_in pages limit ready.rid (changed (slot_in pages ready.rid) (option_map row_bytes new)))
    (lawful_as h ready (Some n) is_ready undone).3

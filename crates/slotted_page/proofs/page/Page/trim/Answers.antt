use Rattle.std.proofs.Common.{◌≡◌, ◌+◌, ◌<◌, ℕ, List, length, ap, sym, ◌∙◌, arith, subst, false}
use Rattle.std.specs.Prelude.{get_or, slice_range}
use Rattle.slotted_page.specs.Slot.{Slot, row, put, trimmed, is_free}
use Rattle.slotted_page.specs.Page.{PageValue, CanReserve, slot_at}
use Rattle.slotted_page.specs.Entry.{slot_of, entry_reserve, IsPlaced}
use Rattle.slotted_page.specs.Image.{image_entries, number_at}
use Rattle.slotted_page.specs.declared.entry.Entry.TheVariants.{Free, Row}
use Rattle.slotted_page.proofs.Overlaps.{Within}
use Rattle.slotted_page.proofs.PageFields.{PageFacts, page_facts, slot_is, reserve_is, placed_here, row_length, row_taken, same_lowest, set_page, set_slots}
use Rattle.slotted_page.proofs.PageValues.{row_within}
use Rattle.slotted_page.proofs.page.Page.trim.Goals as goal

-- an entry whose reserve becomes its row's length
record Trims (page : PageValue) (image : List ℕ) (slot o l : ℕ) : Type 0 where
  placed : IsPlaced (number_at image 4) (Row o l l)
  within : Within (Row o l l) (get_or (image_entries image) slot Free)
  room : CanReserve page slot l
  after : slot_of image (Row o l l) ≡ trimmed (slot_at page slot)
  taken : is_free (slot_at page slot) ≡ false

trims : {page : PageValue} {image : List ℕ} {limit reserved first : ℕ} → PageFacts page image limit reserved first → (slot o l was : ℕ) → slot < length page.slots
    → get_or (image_entries image) slot Free ≡ Row o l was → Trims page image slot o l
trims {image = image} f slot o l was lt is =
    let p = placed_here f slot o l was lt is in
    let n = row_length image (number_at image 4) o l was f.laid.long p in
    let reserve = ap entry_reserve is in
    record {
      placed = (p.0, p.1, p.2, p.3, omega arith);
      within = subst (Within (Row o l l)) (sym is) (omega arith, omega arith);
      room = omega (arith, f.laid.room, f.count_is, f.total_is, f.reserved_is, p.4, reserve, reserve_is f slot lt);
      after = ap (row (slice_range image o (o + l))) (sym n) ∙ sym (ap trimmed (slot_is f slot lt ∙ ap (slot_of image) is));
      taken = row_taken f slot o l was lt is;
    }

pub invariant_of-self : goal.invariant_of-self
invariant_of-self c =
    let f = page_facts c.self.invariant c.self.view_is in
    let lt = row_within c.args.self.now.slots c.args.slot c.requires in
    let is = sym c.entry_in.ensures ∙ c.in-Row.is in
    let t = trims f c.args.slot c.in-Row.offset c.in-Row.length c.in-Row.reserve lt is in
    let e = Row c.in-Row.offset c.in-Row.length c.in-Row.length in
    set_page f f.laid c.write_entry.new.image c.args.slot c.in-Row.reserve e lt
    c.write_entry.ensures t.placed t.within (sym (ap entry_reserve is)) t.room c.self.inside.first_free
    (same_lowest f c.write_entry.new.image c.args.slot (slot_of c.self.inside.image e) lt
    (set_slots f c.write_entry.new.image c.args.slot e lt c.write_entry.ensures t.placed t.within t.room) (sym t.taken))

pub returns-in-Row : goal.returns-in-Row
returns-in-Row c =
    let f = page_facts c.self.invariant c.self.view_is in
    let lt = row_within c.args.self.now.slots c.args.slot c.requires in
    let is = sym c.entry_in.ensures ∙ c.in-Row.is in
    let t = trims f c.args.slot c.in-Row.offset c.in-Row.length c.in-Row.reserve lt is in
    let e =
    set_slots f c.write_entry.new.image c.args.slot (Row c.in-Row.offset c.in-Row.length c.in-Row.length) lt c.write_entry.ensures t.placed t.within t.room
    ∙ ap (λ (x : Slot). put c.args.self.now.slots c.args.slot x) t.after in
    cc (e, f.limit_is)

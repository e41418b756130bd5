use Rattle.std.proofs.Common.{◌≡◌, ◌+◌, ◌≤◌, ◌<◌, ℕ, List, length, ap, sym, ◌∙◌, arith, subst}
use Rattle.std.specs.Prelude.{get_or}
use Rattle.slotted_page.specs.Slot.{row, IsRowSize}
use Rattle.slotted_page.specs.Page.{PageValue}
use Rattle.slotted_page.specs.Entry.{entry_reserve, IsPlaced}
use Rattle.slotted_page.specs.Image.{image_entries, number_at}
use Rattle.slotted_page.specs.declared.entry.Entry.TheVariants.{Free, Row}
use Rattle.slotted_page.proofs.Overlaps.{Within}
use Rattle.slotted_page.proofs.PageFields.{PageFacts, page_facts, placed_here, row_taken, same_lowest, set_page, over_laid, over_slots}
use Rattle.slotted_page.proofs.page.Page.overwrite.Goals as goal

-- an entry whose row is written over by one of so many bytes
record Overwrites (image : List ℕ) (slot o n reserve : ℕ) : Type 0 where
  low : number_at image 4 ≤ o
  high : o + n ≤ 4096
  placed : IsPlaced (number_at image 4) (Row o n reserve)
  within : Within (Row o n reserve) (get_or (image_entries image) slot Free)

overwrites : {page : PageValue} {image : List ℕ} {limit reserved first : ℕ} → PageFacts page image limit reserved first → (slot o l was n reserve : ℕ)
    → slot < length page.slots
    → get_or (image_entries image) slot Free ≡ Row o l was → n ≤ l → IsRowSize n → n ≤ reserve → Overwrites image slot o n reserve
overwrites f slot o l was n reserve lt is shorter size reserved =
    let p = placed_here f slot o l was lt is in
    let high : o + n ≤ 4096 = omega (arith, shorter, p.1) in
    record {
      low = p.0;
      high = high;
      placed = (p.0, high, size.0, size.1, reserved);
      within = subst (Within (Row o n reserve)) (sym is) (omega arith, omega (arith, shorter));
    }

pub invariant_of-self : goal.invariant_of-self
invariant_of-self c =
    let f = page_facts c.self.invariant c.self.view_is in
    let bytes = c.args.bytes.now in
    let is = sym c.entry_in.ensures ∙ c.in-Row.is in
    let o = overwrites f c.args.slot c.in-Row.offset c.in-Row.length c.in-Row.was (length bytes) c.args.reserve c.requires.there is
    (omega (arith, c.if-length-bytes.false)) c.requires.size c.requires.reserved in
    let e = over_slots f c.write_at.new.image c.write_entry.new.image c.args.slot c.in-Row.offset c.in-Row.length c.in-Row.was c.args.reserve bytes
    c.requires.there is
    c.if-length-bytes.false c.write_at.ensures c.write_entry.ensures o.placed o.within c.requires.room in
    set_page f (over_laid f c.write_at.new.image c.in-Row.offset bytes o.low o.high c.write_at.ensures) c.write_entry.new.image c.args.slot c.in-Row.was
    (Row c.in-Row.offset (length bytes) c.args.reserve) c.requires.there c.write_entry.ensures o.placed o.within (sym (ap entry_reserve is)) c.requires.room
    c.self.inside.first_free
    (same_lowest f c.write_entry.new.image c.args.slot (row bytes c.args.reserve) c.requires.there e
    (sym (row_taken f c.args.slot c.in-Row.offset c.in-Row.length c.in-Row.was c.requires.there is)))

pub returns : goal.returns
returns c =
    let f = page_facts c.self.invariant c.self.view_is in
    let bytes = c.args.bytes.now in
    let is = sym c.entry_in.ensures ∙ c.in-Row.is in
    let o = overwrites f c.args.slot c.in-Row.offset c.in-Row.length c.in-Row.was (length bytes) c.args.reserve c.requires.there is
    (omega (arith, c.if-length-bytes.false)) c.requires.size c.requires.reserved in
    let e = over_slots f c.write_at.new.image c.write_entry.new.image c.args.slot c.in-Row.offset c.in-Row.length c.in-Row.was c.args.reserve bytes
    c.requires.there is
    c.if-length-bytes.false c.write_at.ensures c.write_entry.ensures o.placed o.within c.requires.room in
    cc (e, f.limit_is)

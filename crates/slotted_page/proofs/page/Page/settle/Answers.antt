use Rattle.std.proofs.Common.{◌∙◌, ◌+◌, ap, arith, sym}
use Rattle.std.specs.Prelude.{slice_range}
use Rattle.slotted_page.specs.Entry.{slot_of}
use Rattle.slotted_page.specs.Slot.{row, settled}
use Rattle.slotted_page.specs.Image.{number_at}
use Rattle.slotted_page.proofs.PageFields.{page_facts, placed_here, row_length, slot_is}
use Rattle.slotted_page.proofs.PageValues.{settled_stays}
use Rattle.slotted_page.proofs.page.Page.settle.Goals as goal

pub returns-in-Free : goal.returns-in-Free
returns-in-Free c =
    let f = page_facts c.self.invariant c.self.view_is in
    let is = slot_is f c.args.slot c.requires ∙ ap (slot_of c.self.inside.image) (sym c.entry_in.ensures ∙ c.in-Free.is) in
    settled_stays c.args.self.now c.args.slot c.requires (is ∙ sym (ap settled is))

pub returns-else-length-reserve : goal.returns-else-length-reserve
returns-else-length-reserve c =
    let f = page_facts c.self.invariant c.self.view_is in
    let image = c.self.inside.image in
    let first = c.in-Row.offset in
    let last = first + c.in-Row.length in
    let entry = sym c.entry_in.ensures ∙ c.in-Row.is in
    let placed = placed_here f c.args.slot first c.in-Row.length c.in-Row.reserve c.requires entry in
    let long = row_length image (number_at image 4) first c.in-Row.length c.in-Row.reserve f.laid.long placed in
    let is = slot_is f c.args.slot c.requires ∙ ap (slot_of image) entry in
    let whole = ap (row (slice_range image first last)) (omega (arith, long, placed.4, c.if-length-reserve.false)) in
    settled_stays c.args.self.now c.args.slot c.requires (is ∙ whole ∙ sym (ap settled is))

use Rattle.std.proofs.Common.{◌<◌, length, arith, sym, ◌∙◌}
use Rattle.slotted_page.specs.Image.{slots_in}
use Rattle.slotted_page.proofs.Rooms.{free_at, lowest_here, lowest_behind, lowest_within}
use Rattle.slotted_page.proofs.image.next_free.Goals as goal

pub returns-then-is_free : goal.returns-then-is_free
returns-then-is_free c =
    let slots = slots_in c.args.image.now in
    let lt : c.loop-slot.slot < length slots = omega (arith, c.image_slots-count.ensures) in
    lowest_here slots c.loop-slot.slot c.loop-slot.invariant
    (free_at c.args.image.now c.loop-slot.slot c.entry_in.result lt c.entry_in.ensures ∙ sym c.is_free.ensures ∙ c.if-is_free.true)

pub loop-slot-preserved : goal.loop-slot-preserved
loop-slot-preserved c =
    let slots = slots_in c.args.image.now in
    let lt : c.loop-slot.slot < length slots = omega (arith, c.image_slots-count.ensures) in
    lowest_behind slots c.loop-slot.slot c.loop-slot.invariant lt
    (free_at c.args.image.now c.loop-slot.slot c.entry_in.result lt c.entry_in.ensures ∙ sym c.is_free.ensures ∙ c.if-is_free.false)

pub returns : goal.returns
returns c =
    let w = lowest_within (slots_in c.args.image.now) in
    omega (arith, w, c.loop-slot.invariant, c.image_slots-count.ensures)

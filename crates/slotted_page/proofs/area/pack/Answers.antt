use Rattle.std.proofs.Common.{◌≡◌, ◌+◌, ◌-◌, sym, ◌∙◌, arith}
use Rattle.slotted_page.proofs.Packs.{packs_none, packs_other, packs_fits, packs_row, packed_laid, packed_slots, packed_floor}
use Rattle.slotted_page.proofs.Layouts.{format_laid}
use Rattle.slotted_page.proofs.area.pack.Goals as goal

pub loop-slot-init : goal.loop-slot-init
loop-slot-init c = packs_none c.requires c.image_slots-count.result c.image_slots-count.ensures

pub overflow_sub-floor : goal.overflow_sub-floor
overflow_sub-floor c =
    omega (arith, packs_fits c.requires c.loop-slot.invariant (c.loop-slot.slot - 1) (omega arith) (sym c.entry_in.ensures ∙ c.in-Row.is))

pub loop-slot-preserved-in-Row : goal.loop-slot-preserved-in-Row
loop-slot-preserved-in-Row c =
    let j : c.loop-slot.slot - 1 + 1 ≡ c.loop-slot.slot = omega arith in
    let is = sym c.entry_in.ensures ∙ c.in-Row.is in
    let fits = packs_fits c.requires c.loop-slot.invariant (c.loop-slot.slot - 1) j is in
    packs_row c.requires c.loop-slot.invariant c.write_at.new.image c.write_entry.new.image (c.loop-slot.slot - 1) (c.loop-slot.floor - c.in-Row.length) j is
    (omega (arith, fits)) c.write_at.ensures c.write_entry.ensures

pub loop-slot-preserved : goal.loop-slot-preserved
loop-slot-preserved c =
    packs_other c.loop-slot.invariant (c.loop-slot.slot - 1) c.entry_in.result (omega arith) c.entry_in.ensures c.in_default.not-Row

pub returns-clause-format : goal.returns-clause-format
returns-clause-format c =
    format_laid (packed_laid c.requires c.loop-slot.invariant c.write_head.new.image c.image_slots-count.result c.loop-slot-test.false
    c.image_slots-count.ensures c.write_head.ensures)

pub returns-clause-slots : goal.returns-clause-slots
returns-clause-slots c =
    packed_slots c.requires c.loop-slot.invariant c.write_head.new.image c.image_slots-count.result c.loop-slot-test.false c.image_slots-count.ensures
    c.write_head.ensures

pub returns-clause-floor : goal.returns-clause-floor
returns-clause-floor c =
    packed_floor c.requires c.loop-slot.invariant c.write_head.new.image c.image_slots-count.result c.loop-slot-test.false c.image_slots-count.ensures
    c.write_head.ensures

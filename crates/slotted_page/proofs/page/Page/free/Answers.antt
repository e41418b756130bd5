use Rattle.std.proofs.Common.{◌≡◌, ℕ, ◌+◌, ◌-◌, ap, sym, ◌∙◌, arith, subst}
use Rattle.std.specs.Prelude.{min}
use Rattle.slotted_page.specs.Slot.{lowest_free}
use Rattle.slotted_page.specs.Page.{CanReserve}
use Rattle.slotted_page.specs.Entry.{entry_reserve}
use Rattle.slotted_page.specs.Fields.{IsPage}
use Rattle.slotted_page.specs.declared.entry.Entry.TheVariants.{Free}
use Rattle.slotted_page.proofs.PageFields.{page_facts, set_page, set_slots}
use Rattle.slotted_page.proofs.PageValues.{held_within}
use Rattle.slotted_page.proofs.Rooms.{lowest_freed}
use Rattle.slotted_page.proofs.page.Page.free.Goals as goal

pub invariant_of-self : goal.invariant_of-self
invariant_of-self c =
    let f = page_facts c.self.invariant c.self.view_is in
    let lt = held_within c.args.self.now.slots c.args.slot c.requires in
    let room : CanReserve c.args.self.now c.args.slot 0 = omega (arith, f.laid.room, f.count_is, f.total_is, f.reserved_is) in
    let slots = set_slots f c.write_entry.new.image c.args.slot Free lt c.write_entry.ensures tt tt room in
    let lowest =
    ap lowest_free slots ∙ lowest_freed c.args.self.now.slots c.args.slot lt ∙ ap (λ (n : ℕ). min n c.args.slot) f.first_is
    ∙ sym c.min-self-inside.ensures in
    let e : c.self.inside.reserved - c.reserve-reserve.result + 0 ≡ c.self.inside.reserved - c.reserve-reserve.result = omega arith in
    subst (λ (r : ℕ). IsPage c.write_entry.new.image c.self.inside.limit r c.min-self-inside.result) e
    (set_page f f.laid c.write_entry.new.image c.args.slot c.reserve-reserve.result Free lt c.write_entry.ensures tt tt
    (c.reserve-reserve.ensures ∙ ap entry_reserve c.entry_in.ensures) room
    c.min-self-inside.result lowest)

pub returns : goal.returns
returns c =
    let f = page_facts c.self.invariant c.self.view_is in
    let lt = held_within c.args.self.now.slots c.args.slot c.requires in
    let e = set_slots f c.write_entry.new.image c.args.slot Free lt c.write_entry.ensures tt tt
    (omega (arith, f.laid.room, f.count_is, f.total_is, f.reserved_is)) in
    cc (e, f.limit_is)

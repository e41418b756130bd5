use Rattle.std.proofs.Common.{refl, ap, sym, ◌∙◌, arith}
use Rattle.slotted_page.specs.Slot.{held, lowest_free}
use Rattle.slotted_page.specs.Entry.{entry_reserve}
use Rattle.slotted_page.specs.declared.entry.Entry.TheVariants.{Held}
use Rattle.slotted_page.proofs.Layouts.{format_laid}
use Rattle.slotted_page.proofs.PageFields.{page_facts, set_laid, set_page, set_slots}
use Rattle.slotted_page.proofs.Rooms.{lowest_taken}
use Rattle.slotted_page.proofs.page.Page.make_held.Goals as goal

pub next_free-self-inside-requires-clause-format : goal.next_free-self-inside-requires-clause-format
next_free-self-inside-requires-clause-format c =
    let f = page_facts c.self.invariant c.self.view_is in
    format_laid (set_laid f f.laid c.write_entry.new.image c.args.slot (Held c.args.reserve) c.requires.there c.write_entry.ensures tt tt c.requires.room)

pub next_free-self-inside-requires-clause-from : goal.next_free-self-inside-requires-clause-from
next_free-self-inside-requires-clause-from c =
    let f = page_facts c.self.invariant c.self.view_is in
    let slots = set_slots f c.write_entry.new.image c.args.slot (Held c.args.reserve) c.requires.there c.write_entry.ensures tt tt c.requires.room in
    let le = lowest_taken c.args.self.now.slots c.args.slot (held c.args.reserve) c.requires.there refl in
    omega (arith, le, f.first_is, ap lowest_free slots)

pub invariant_of-self : goal.invariant_of-self
invariant_of-self c =
    let f = page_facts c.self.invariant c.self.view_is in
    set_page f f.laid c.write_entry.new.image c.args.slot c.reserve-was.result (Held c.args.reserve)
    c.requires.there c.write_entry.ensures tt tt (c.reserve-was.ensures ∙ ap entry_reserve c.entry_in.ensures) c.requires.room
    c.next_free-self-inside.result (sym c.next_free-self-inside.ensures)

pub returns : goal.returns
returns c =
    let f = page_facts c.self.invariant c.self.view_is in
    let e = set_slots f c.write_entry.new.image c.args.slot (Held c.args.reserve) c.requires.there c.write_entry.ensures tt tt c.requires.room in
    cc (e, f.limit_is)

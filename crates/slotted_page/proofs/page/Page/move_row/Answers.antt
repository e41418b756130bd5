use Rattle.std.proofs.Common.{arith, ◌∙◌}
use Rattle.slotted_page.specs.Slot.{held, row}
use Rattle.slotted_page.proofs.PageValues.{with_with, get_with, length_with}
use Rattle.slotted_page.proofs.page.Page.move_row.Goals as goal

pub fill_held-requires-clause-there : goal.fill_held-requires-clause-there
fill_held-requires-clause-there c =
    let e = length_with c.args.self.now c.make_held.new.self c.args.slot (held c.args.reserve) c.requires.there c.make_held.ensures in
    omega (arith, e, c.requires.there)

pub fill_held-requires-clause-is_held : goal.fill_held-requires-clause-is_held
fill_held-requires-clause-is_held c =
    get_with c.args.self.now c.make_held.new.self c.args.slot (held c.args.reserve)
    (omega (arith, c.requires.there)) c.make_held.ensures

pub returns : goal.returns
returns c =
    c.fill_held.ensures
    ∙ with_with c.args.self.now c.make_held.new.self c.args.slot (held c.args.reserve) (row c.args.bytes.now c.args.reserve)
    (omega (arith, c.requires.there)) c.make_held.ensures

use Rattle.std.proofs.Common.{sym, ◌∙◌}
use Rattle.slotted_page.proofs.Images.{slots_count}
use Rattle.slotted_page.proofs.image.image_slots.Goals as goal

pub returns : goal.returns
returns c = c.number_in.ensures ∙ sym (slots_count c.args.image.now)

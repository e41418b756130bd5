use Rattle.std.proofs.Common.{◌≤◌}
use Rattle.slotted_page.specs.Slot.{lowest_free}
use Rattle.slotted_page.specs.Image.{slots_in}
use Rattle.slotted_page.proofs.image.next_free.Given as goal

abbrev pub invariant-loop-slot : goal.invariant-loop-slot
invariant-loop-slot l = l.slot ≤ lowest_free (slots_in l.image)

use Rattle.slotted_page.proofs.Packs.{Packs}
use Rattle.slotted_page.proofs.area.pack.Given as goal

abbrev pub invariant-loop-slot : goal.invariant-loop-slot
invariant-loop-slot l = Packs l.from l.image l.slot l.floor

abbrev pub decreases-loop-slot : goal.decreases-loop-slot
decreases-loop-slot l = l.slot

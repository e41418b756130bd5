use Rattle.slotted_page.proofs.PageFields.{page_facts, sound_page}
use Rattle.slotted_page.proofs.page.Page.slots.Goals as goal

pub returns-clause-sound : goal.returns-clause-sound
returns-clause-sound c = sound_page (page_facts c.self.invariant c.self.view_is)

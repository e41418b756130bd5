use Rattle.slotted_page.proofs.PageFields.{page_facts, sound_page}
use Rattle.slotted_page.proofs.page.Page.slots_with_row.Goals as goal

pub returns-in-Some-clause-sound : goal.returns-in-Some-clause-sound
returns-in-Some-clause-sound c = sound_page (page_facts c.self.invariant c.self.view_is)

pub returns-in-None-clause-sound : goal.returns-in-None-clause-sound
returns-in-None-clause-sound c = sound_page (page_facts c.self.invariant c.self.view_is)

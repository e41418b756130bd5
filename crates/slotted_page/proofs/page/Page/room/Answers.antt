use Rattle.slotted_page.proofs.PageFields.{page_facts, sound_page}
use Rattle.slotted_page.proofs.page.Page.room.Goals as goal

pub returns-in-Some-clause-sound : goal.returns-in-Some-clause-sound
returns-in-Some-clause-sound c = sound_page (page_facts c.self.invariant c.self.view_is)

pub returns-then-slots-self-clause-sound : goal.returns-then-slots-self-clause-sound
returns-then-slots-self-clause-sound c = sound_page (page_facts c.self.invariant c.self.view_is)

pub returns-clause-sound : goal.returns-clause-sound
returns-clause-sound c = sound_page (page_facts c.self.invariant c.self.view_is)

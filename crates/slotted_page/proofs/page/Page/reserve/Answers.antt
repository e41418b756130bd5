use Rattle.slotted_page.proofs.PageFields.{page_facts, sound_page}
use Rattle.slotted_page.proofs.page.Page.reserve.Goals as goal

pub returns-clause-room : goal.returns-clause-room
returns-clause-room c = let p = sound_page (page_facts c.self.invariant c.self.view_is) in p.room

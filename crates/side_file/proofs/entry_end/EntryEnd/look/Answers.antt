use Rattle.side_file.proofs.PortionLemmas.{looked_end}
use Rattle.side_file.proofs.entry_end.EntryEnd.look.Goals as goal

pub returns-clause-looked : goal.returns-clause-looked
returns-clause-looked c =
    looked_end c.self.inside.taken c.self.inside.hand.entries c.bring.new.hand.entries c.self.inside.ring c.slots-self-inside.new.self c.bring.new.ring
    c.slots-self-inside.ensures.looked c.bring.ensures.ring c.bring.ensures.brings c.self.invariant.is_whole.taken_came _ c.self.view_is

use Rattle.std.proofs.Common.{arith}
use Rattle.side_file.proofs.PortionLemmas.{looked_end, looked_then, beside_free}
use Rattle.side_file.proofs.entry_end.EntryEnd.beside.Goals as goal

pub returns-clause-looked : goal.returns-clause-looked
returns-clause-looked c =
    looked_end c.self.inside.taken c.self.inside.hand.entries c.refill.new.hand.entries c.self.inside.ring c.slots_beside-2.new.self c.refill.new.ring
    (looked_then c.self.inside.ring c.slots_beside.new.consumer c.slots_beside-2.new.self c.slots_beside.ensures.consumer c.slots_beside-2.ensures.looked)
    c.refill.ensures.ring c.refill.ensures.brings c.self.invariant.is_whole.taken_came _ c.self.view_is

pub returns-clause-free : goal.returns-clause-free
returns-clause-free c =
    beside_free c.args.put c.self.inside.taken c.args.producer.now c.slots_beside.new.self c.slots_beside-2.new.producer c.self.inside.ring
    c.slots_beside.new.consumer c.slots_beside-2.new.self c.slots_beside.ensures.looked c.slots_beside-2.ensures.producer
    c.slots_beside.ensures.consumer c.slots_beside-2.ensures.looked
    (omega (arith, c.slots_beside.ensures.value, c.slots_beside.ensures.all_free)) c.slots_beside-2.ensures.fifo c.requires.some c.requires.put
    c.self.invariant.is_whole.taken_came

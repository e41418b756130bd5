use Rattle.std.proofs.Common.{◌≡◌, ◌∙◌, rules, arith, ap, length, sym}
use Rattle.rtrb.specs.Ring.{received, known_items}
use Rattle.side_file.specs.Ends.{ring_take}
use Rattle.side_file.specs.Ends.{take_end}
use Rattle.page_workers.proofs.Rings.{all_taken, emptied_end, freed_end, none_left}
use Rattle.page_workers.proofs.intake.empty_ring.Goals as goal

pub returns-clause-ring : goal.returns-clause-ring
returns-clause-ring c =
    let all : received c.loop.ring ≡ c.beside-end.new.self.sent =
    all_taken (received c.loop.ring) (known_items c.loop.ring) _ c.loop.invariant.all (omega arith) in
    let ring : ring_take c.beside.new.ring ≡ ring_take c.args.ring.now = search rules in
    let sent : c.beside-end.new.self.sent ≡ c.args.putter.now.sent = c.beside-end.ensures.looked.sent in
    let after : received c.beside.new.ring ≡ c.args.putter.now.sent = c.beside.ensures.ring.1 ∙ (all ∙ sent) in
    emptied_end (take_end c.beside.new.ring) _ _ ring after (c.beside.ensures.in_order ∙ (c.beside.ensures.looked.sent ∙ sent))

pub returns-clause-putter : goal.returns-clause-putter
returns-clause-putter c =
    let first = c.beside-end.ensures.looked in
    let last = c.beside.ensures.looked in
    let all : received c.loop.ring ≡ c.beside-end.new.self.sent =
    all_taken (received c.loop.ring) (known_items c.loop.ring) _ c.loop.invariant.all (omega arith) in
    let after : received c.beside.new.ring ≡ c.beside.new.self.sent = c.beside.ensures.ring.1 ∙ (all ∙ sym last.sent) in
    let none = none_left (received c.beside.new.ring) (known_items c.beside.new.ring) _ c.beside.ensures.in_order after in
    let free : c.beside.new.self.free ≡ 4 = omega (arith, c.beside.ensures.four, c.beside.ensures.free, c.beside.ensures.value, ap length none) in
    freed_end c.args.putter.now c.beside.new.self (last.ring ∙ first.ring) (last.capacity ∙ first.capacity) (last.sent ∙ first.sent) free

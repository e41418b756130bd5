use Rattle.std.proofs.Common.{rules, arith, ap, length}
use Rattle.std.proofs.lemmas.List.{length-append}
use Rattle.side_file.proofs.PortionLemmas.{sent_more}
use Rattle.side_file.proofs.side_file.SideFile.feed_batch.Goals as goal

pub invariant_of-self-then-count-gt0 : goal.invariant_of-self-then-count-gt0
invariant_of-self-then-count-gt0 c =
    let taken = c.take_first-count in
    let more = sent_more _ _ _ _ _ _ c.is_full.ensures.looked.1 c.push_reserved.ensures.sent.0 (omega (arith, taken.ensures.count)) c.if-count-gt0.true
    c.self.invariant.some c.self.invariant.counted in
    record {
      ring = search rules;
      some = more.0;
      counted = more.1;
      fed_was_sent = omega (arith, c.self.invariant.fed_was_sent);
      countable = omega (
        arith,
        c.self.invariant.countable,
        taken.ensures.count,
        taken.ensures.room,
        ap length taken.ensures.items,
        length-append taken.new.taken.items taken.new.self.items,
      );
    }

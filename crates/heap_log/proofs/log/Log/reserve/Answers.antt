use Rattle.std.proofs.Common.{arith}
use Rattle.heap_log.proofs.log.Log.reserve.Goals as goal

pub invariant_of-self-2 : goal.invariant_of-self-2
invariant_of-self-2 c = record {
  links = rw (c.in_ok-reserve.ensures.items, c.in_ok-reserve-2.ensures.items) c.self.invariant.links;
  txns = λ txn. rw c.in_ok-reserve.ensures.items (c.self.invariant.txns txn);
  rids = λ rid. rw c.in_ok-reserve.ensures.items (c.self.invariant.rids rid);
  records_room = omega (arith, c.in_ok-reserve.ensures.ok);
  links_room = omega (arith, c.in_ok-reserve-2.ensures.ok);
}

use Rattle.std.proofs.Common.{◌≡◌, ◌+◌, ◌++◌, take, drop, All}
use Rattle.rtrb.specs.Ring.{sent, known_free, SameProducer}
use Rattle.side_file.specs.Portions.{entries_of, HasSome}
use Rattle.side_file.proofs.side_file.move_first.Given as goal

abbrev pub invariant-loop : goal.invariant-loop
invariant-loop l = record {
  ring : SameProducer l.initial.producer l.producer;
  sent_is : entries_of (sent l.producer) ≡ entries_of (sent l.initial.producer) ++ take l.counter l.initial.left.items;
  portions : All HasSome (sent l.initial.producer) → All HasSome (sent l.producer);
  left : l.left.items ≡ drop l.counter l.initial.left.items;
  room : l.left.room ≡ l.initial.left.room;
  taken : known_free l.initial.producer ≡ known_free l.producer + l.counter;
}

use Rattle.std.proofs.Common.{◌≡◌, ◌+◌, ◌^◌, ◌<◌, ◌≤◌, length}
use Rattle.rtrb.specs.Ring.{received, known_items, SameConsumer}
use Rattle.side_file.specs.EntryEnds.{Brings}
use Rattle.side_file.specs.Portions.{entries_of}
use Rattle.side_file.proofs.entry_end.bring.Given as goal

abbrev pub invariant-loop : goal.invariant-loop
invariant-loop l = record {
  ring : SameConsumer l.initial.ring l.ring;
  brings : Brings (received l.initial.ring) (known_items l.initial.ring) l.initial.hand.entries (received l.ring) (known_items l.ring) l.hand.entries;
  rest : length (known_items l.ring) + l.counter ≡ length (known_items l.initial.ring);
  room : l.initial.hand.room ≤ l.hand.room + l.counter;
  came : length l.hand.entries ≤ length (entries_of (received l.ring));
  few : length (entries_of (received l.ring)) < 2 ^ 60;
}

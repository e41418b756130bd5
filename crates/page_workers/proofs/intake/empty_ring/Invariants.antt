use Rattle.std.proofs.Common.{◌≡◌, ◌+◌, ◌++◌, length}
use Rattle.rtrb.specs.Ring.{received, known_items}
use Rattle.side_file.specs.Ends.{ring_take}
use Rattle.page_workers.proofs.intake.empty_ring.Given as goal

abbrev pub invariant-loop : goal.invariant-loop
invariant-loop l = record {
  ring : ring_take l.ring ≡ ring_take l.initial.ring;
  all : received l.ring ++ known_items l.ring ≡ l.putter.sent;
  rest : length (known_items l.ring) + l.counter ≡ l.end;
}

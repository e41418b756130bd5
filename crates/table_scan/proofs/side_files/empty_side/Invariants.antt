use Rattle.std.proofs.Common.{◌≡◌, ◌+◌, ◌++◌, length}
use Rattle.table_scan.proofs.side_files.empty_side.Given as goal

abbrev pub invariant-loop : goal.invariant-loop
invariant-loop l = record {
  ring : l.end-2.ring ≡ l.initial.end-2.ring;
  all : l.end-2.received ++ l.end-2.known ≡ l.side.end.sent;
  rest : length l.end-2.known + l.counter ≡ l.end;
}

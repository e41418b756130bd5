use Rattle.std.proofs.Common.{◌≡◌, ◌≤◌, length}
use Rattle.std.specs.Prelude.{map}
use Rattle.std.specs.List.{range_with_len}
use Rattle.std.specs.Vec.{vec_capacity}
use Rattle.scan_range.specs.Cuts.{range_start}
use Rattle.scan_range.proofs.ranges.Ranges.new.Given as goal

abbrev pub invariant-loop-end : goal.invariant-loop-end
invariant-loop-end l = record {
  made : l.next.items ≡ map (range_start l.ends) (range_with_len 0 l.end-index);
  count : length l.next.items ≡ l.end-index;
  room : length l.ends ≤ vec_capacity l.next;
  start : l.start ≡ range_start l.ends l.end-index;
}

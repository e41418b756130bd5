use Rattle.std.proofs.Common.{◌≡◌, ◌≤◌, ◌+◌, ◌*◌, ◌/◌, length}
use Rattle.std.specs.Prelude.{map}
use Rattle.std.specs.List.{range_with_len}
use Rattle.std.specs.Vec.{vec_capacity}
use Rattle.scan_range.proofs.cuts.Cuts.even.Given as goal

abbrev pub invariant-loop-range : goal.invariant-loop-range
invariant-loop-range l = record {
  made : l.ends.items ≡ map (λ range. l.pages * (range + 1) / l.ranges) (range_with_len 0 l.range);
  count : length l.ends.items ≡ l.range;
  room : l.ranges ≤ vec_capacity l.ends;
}

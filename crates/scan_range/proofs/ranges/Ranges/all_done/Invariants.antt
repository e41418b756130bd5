use Rattle.std.proofs.Common.{◌≡◌, ℕ, ◌<◌, true}
use Rattle.scan_range.specs.Ranges.{is_done}
use Rattle.scan_range.proofs.ranges.Ranges.all_done.Given as goal

abbrev pub invariant-loop-range : goal.invariant-loop-range
invariant-loop-range l = (range : ℕ) → range < l.range → is_done l.self range ≡ true

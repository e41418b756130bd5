use Rattle.std.proofs.Common.{◌≡◌, ℕ, ◌-◌, ◌<◌, ◌≤◌, max, true, length, slice_index}
use Rattle.csv_index.specs.Lines.{is_end_byte}
use Rattle.csv_index.proofs.table.line_counter.LineCounter.line_from.Given as goal

-- what was passed behind the place is of the ends of lines
abbrev pub invariant-loop-self : goal.invariant-loop-self
invariant-loop-self l = record {
  same : l.self.text ≡ l.fn.self.text;
  onward : l.fn.self.passed ≤ l.self.passed;
  ends : (other : ℕ) → max l.place l.fn.self.passed ≤ other → other < l.self.passed → is_end_byte (slice_index l.self.text other) ≡ true;
}

abbrev pub decreases-loop-self : goal.decreases-loop-self
decreases-loop-self l = length l.self.text - l.self.passed

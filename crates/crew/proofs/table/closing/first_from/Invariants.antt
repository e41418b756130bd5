use Rattle.std.proofs.Common.{ℕ, ◌-◌, ◌<◌, ◌≤◌, List, length, slice_index_or}
use Rattle.heap_log.specs.declared.record.LogRec.{LogRec}
use Rattle.crew.proofs.table.closing.first_from.Given as goal

abbrev pub invariant-loop-place : goal.invariant-loop-place
invariant-loop-place g l = record {
  onward : l.from ≤ l.place;
  inside : l.place ≤ length l.receipts;
  below : (k : ℕ) (d : List LogRec) → l.from ≤ k → k < l.place → length (slice_index_or l.receipts k d) < l.number;
}

abbrev pub decreases-loop-place : goal.decreases-loop-place
decreases-loop-place g l = length l.receipts - l.place

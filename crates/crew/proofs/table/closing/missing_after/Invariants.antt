use Rattle.std.proofs.Common.{◌≡◌, ℕ, ◌+◌, ◌-◌, ◌<◌, ◌≤◌, List, length, slice_index_or}
use Rattle.heap_log.specs.declared.record.LogRec.{LogRec}
use Rattle.crew.specs.Receipts.{missing_of}
use Rattle.crew.proofs.table.closing.missing_after.Given as goal

abbrev pub invariant-loop-before : goal.invariant-loop-before
invariant-loop-before g l = record {
  few : l.missing ≤ l.before - l.opened;
  counted : l.missing ≡ missing_of l.receipts l.opened (l.before - l.opened);
  inside : l.place ≤ length l.receipts;
  below : (k : ℕ) (d : List LogRec) → k < l.place → length (slice_index_or l.receipts k d) < l.before + 1;
}

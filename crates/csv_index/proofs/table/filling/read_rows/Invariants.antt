use Rattle.std.proofs.Common.{◌≡◌, ℕ, ◌+◌, List, ◌++◌}
use Rattle.csv_index.specs.Fillings.{AreTaken, LeavesOutIf}
use Rattle.csv_index.specs.OpenTxns.{IsAlone}
use Rattle.csv_index.proofs.table.filling.read_rows.Given as goal

-- the records before these are taken, and the text is read up to where its lines are counted
abbrev pub invariant-loop-number : goal.invariant-loop-number
invariant-loop-number g l = record {
  taken :
      (done : List (List (List ℕ))) × (done ++ l.records ≡ l.fn.records)
      × AreTaken l.layout.width l.layout.sources.items l.fn.lines.text l.lines.passed done l.fn.filled.heap.state l.filled;
  counted : l.filled.rows + l.filled.left_out ≡ l.number;
  skipped : LeavesOutIf l.reading.skips_bad l.filled;
  alone : IsAlone l.txn l.filled.heap.state;
  text : l.lines.text ≡ l.fn.lines.text;
}

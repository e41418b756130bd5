use Rattle.std.proofs.Common.{ℕ, ◌<◌, ◌≤◌, get_or}
use Rattle.bench.specs.Columns.{key_size}
use Rattle.bench.specs.declared.column.Column.{Column}
use Rattle.bench.proofs.column.longest_key.Given as goal

abbrev pub invariant-loop-column : goal.invariant-loop-column
invariant-loop-column l = record {
  longest : l.longest ≤ 258;
  each : (k : ℕ) (d : Column) → k < l.column-index → key_size (get_or l.columns k d).values ≤ l.longest;
}

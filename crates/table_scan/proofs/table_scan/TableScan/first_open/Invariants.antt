use Rattle.std.proofs.Common.{◌≡◌, ℕ, ◌<◌, None}
use Rattle.build_events.specs.Ranges.{next_page}
use Rattle.table_scan.proofs.table_scan.TableScan.first_open.Given as goal

abbrev pub invariant-loop-range : goal.invariant-loop-range
invariant-loop-range l = (k : ℕ) → k < l.range → next_page l.self k ≡ None

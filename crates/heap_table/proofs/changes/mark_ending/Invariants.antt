use Rattle.std.proofs.Common.{◌≡◌, ◌≤◌, ◌<◌, ℕ, length, get_or}
use Rattle.heap_table.specs.declared.open_txn.OpenTxn.{OpenTxn}
use Rattle.heap_table.specs.HeapState.{mark}
use Rattle.heap_table.proofs.changes.mark_ending.Given as goal

abbrev pub invariant-loop-i : goal.invariant-loop-i
invariant-loop-i l = (length l.open_txns.items ≡ length l.initial.open_txns.items)
    × ((k : ℕ) (d : OpenTxn) → k < l.i → get_or l.open_txns.items k d ≡ mark l.txn (get_or l.initial.open_txns.items k d))
    × ((k : ℕ) (d : OpenTxn) → l.i ≤ k → get_or l.open_txns.items k d ≡ get_or l.initial.open_txns.items k d)

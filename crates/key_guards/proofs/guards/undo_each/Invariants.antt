-- Those before the place are undone, and the others as they were.
use Rattle.std.proofs.Common.{◌≡◌, ◌≤◌, ◌<◌, ℕ, length, get_or}
use Rattle.key_guards.specs.TxnGuards.{TxnValue}
use Rattle.key_guards.specs.GuardLists.{IsUndone}
use Rattle.key_guards.proofs.guards.undo_each.Given as goal

abbrev pub invariant-loop-i : goal.invariant-loop-i
invariant-loop-i l = (length l.txns.items ≡ length l.initial.txns.items)
    × ((k : ℕ) (d : TxnValue) → k < l.i → IsUndone l.number (get_or l.initial.txns.items k d) (get_or l.txns.items k d))
    × ((k : ℕ) (d : TxnValue) → l.i ≤ k → get_or l.txns.items k d ≡ get_or l.initial.txns.items k d)

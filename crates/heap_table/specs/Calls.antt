-- What each call of a table answers and leaves, where nothing refuses it.
use Rattle.std.specs.Prelude.{◌≡◌, ℕ, ◌+◌, List, length, Some, None}
use Rattle.keybytes.specs.Rows.{row_bytes}
use Rattle.keybytes.specs.declared.cell.Cell.{Cell}
use Rattle.keybytes.specs.declared.rid.Rid.{Rid}
use Rattle.heap_log.specs.declared.outcome.Outcome.{Outcome}
use Rattle.heap_log.specs.Standing.{newest_standing, standing_count}
use Rattle.heap_table.specs.HeapState.{HeapState, insert_place, after_begin, after_write, after_step, after_commit, after_switch, undone_number}
use Rattle.heap_table.specs.HeapValue.{HeapValue}
use Rattle.heap_table.specs.declared.undone.Undone.{Undone}

-- a call that is told by the table's state alone
abbrev pub OnState : {R : Type 0} → (HeapState → R → HeapState → Type 0) → HeapValue → R → HeapValue → Type 0
OnState Does old answer new = Does old.state answer new.state

-- the next transaction begins; answered with its number
abbrev pub Begins : HeapState → ℕ → HeapState → Type 0
Begins s txn new = (txn ≡ s.begun + 1) × (new ≡ after_begin s)

-- the transaction puts the row where an insert goes; answered with the record's number and the RID
abbrev pub Inserts : ℕ → List Cell → HeapState → ℕ × Rid → HeapState → Type 0
Inserts txn row s written new =
    (written.0 ≡ length s.log + 1) × (insert_place s (length (row_bytes row)) ≡ Some written.1)
    × (new ≡ after_write s txn written.1 (Some row))

-- it gives the RID another row
abbrev pub Updates : ℕ → Rid → List Cell → HeapState → ℕ × Rid → HeapState → Type 0
Updates txn rid row s written new =
    (written.0 ≡ length s.log + 1) × (written.1 ≡ rid) × (new ≡ after_write s txn rid (Some row))

-- it takes the RID's row away
abbrev pub Deletes : ℕ → Rid → HeapState → ℕ × Rid → HeapState → Type 0
Deletes txn rid s written new =
    (written.0 ≡ length s.log + 1) × (written.1 ≡ rid) × (new ≡ after_write s txn rid None)

-- its newest standing write is undone; answered with the record's number and how many of its writes still stand
abbrev pub Undoes : ℕ → HeapState → Undone → HeapState → Type 0
Undoes txn s undone new =
    (undone.number ≡ undone_number s (newest_standing s.log txn)) × (undone.left ≡ standing_count new.log txn)
    × (new ≡ after_step s txn (newest_standing s.log txn))

-- it commits; answered with the record's number
abbrev pub Commits : ℕ → HeapState → ℕ → HeapState → Type 0
Commits txn s number new = (number ≡ length s.log + 1) × (new ≡ after_commit s txn)

-- what a switch decided is noted; answered with the record's number
abbrev pub Notes : List Outcome → HeapState → ℕ → HeapState → Type 0
Notes outcomes s number new = (number ≡ length s.log + 1) × (new ≡ after_switch s outcomes)

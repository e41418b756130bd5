-- The rows that the table of a race has first.
use Rattle.std.specs.Global.{Vec}
use Rattle.std.specs.List.{All}
use Rattle.std.specs.Prelude.{◌≡◌, ◌≢◌, ◌⊎◌, ℕ, List, [], ◌∷◌, ◌++◌, Some, true}
use Rattle.keybytes.specs.declared.cell.Cell.{Cell}
use Rattle.keybytes.specs.declared.rid.Rid.{Rid}
use Rattle.heap_log.specs.declared.record.LogRec.{LogRec}
use Rattle.heap_log.specs.declared.record.LogRec.TheVariants.{Commit, Write}
use Rattle.heap_table.specs.HeapState.{HeapState, is_open}

-- none of these records is a commit
abbrev pub NoneCommits : List LogRec → Type 0
NoneCommits records = All (λ rec. (txn : ℕ) → rec ≢ Commit txn) records

-- a transaction put the row in and committed, with no record between
abbrev pub HasPut : List Cell → List LogRec → List LogRec → Type 0
HasPut cells old new = (txn : ℕ) × (rid : Rid) × (new ≡ old ++ Write txn rid (Some cells) ∷ Commit txn ∷ [])

-- nothing was committed
abbrev pub HasPassedOver : List LogRec → List LogRec → Type 0
HasPassedOver old new = (records : List LogRec) × NoneCommits records × (new ≡ old ++ records)

-- each transaction that is open was open before
abbrev pub OpensNone : HeapState → HeapState → Type 0
OpensNone old new = (txn : ℕ) → is_open new.active txn ≡ true → is_open old.active txn ≡ true

-- each of the rows was put in or passed over, one after the other
abbrev pub HasPutRows : List (Vec Cell) → List LogRec → List LogRec → Type 0
HasPutRows [] old new = new ≡ old
HasPutRows (cells ∷ rows) old new =
    (next : List LogRec) × (HasPut cells.items old next ⊎ HasPassedOver old next) × HasPutRows rows next new

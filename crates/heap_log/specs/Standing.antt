-- Which writes of a log stand, and what they leave. A record's number is its place in the log, from 1.
use Rattle.std.specs.Prelude.{ℕ, zero, suc, ◌+◌, ◌≤◌, Bool, false, ◌&&◌, not, ◌==◌, if◌then◌else◌, List, length, Option, Some, None, IsSome}
use Rattle.std.specs.List.{slice_get, list_any}
use Rattle.keybytes.specs.declared.cell.Cell.{Cell}
use Rattle.keybytes.specs.Rids.{same_rid}
use Rattle.keybytes.specs.declared.rid.Rid.{Rid}
use Rattle.heap_log.specs.declared.record.LogRec.{LogRec}
use Rattle.heap_log.specs.declared.record.LogRec.TheVariants.{Write, Undo, Commit, Switch}

-- the greatest number below n that passes
abbrev pub last_below : (ℕ → Bool) → ℕ → Option ℕ
last_below passes zero = None
last_below passes (suc n) = if passes n then Some n else last_below passes n

-- how many numbers below n pass
abbrev pub count_below : (ℕ → Bool) → ℕ → ℕ
count_below passes zero = 0
count_below passes (suc n) = if passes n then count_below passes n + 1 else count_below passes n

-- the record of that number
abbrev pub record_at : List LogRec → ℕ → Option LogRec
record_at log zero = None
record_at log (suc i) = slice_get log i

-- whether the record is a write of the transaction
abbrev pub is_write_of : ℕ → Option LogRec → Bool
is_write_of txn None = false
is_write_of txn (Some (Write writer rid row)) = writer == txn
is_write_of txn (Some (Undo t n)) = false
is_write_of txn (Some (Commit t)) = false
is_write_of txn (Some (Switch verdicts)) = false

-- whether the record is a write at the RID
abbrev pub is_write_at : Rid → Option LogRec → Bool
is_write_at place None = false
is_write_at place (Some (Write txn rid row)) = same_rid rid place
is_write_at place (Some (Undo t n)) = false
is_write_at place (Some (Commit t)) = false
is_write_at place (Some (Switch verdicts)) = false

-- whether the record is an undo of the record of that number
abbrev pub is_undo_of : ℕ → LogRec → Bool
is_undo_of n (Write txn rid row) = false
is_undo_of n (Undo txn undone) = undone == n
is_undo_of n (Commit txn) = false
is_undo_of n (Switch verdicts) = false

-- whether an undo in the log names the number
abbrev pub undone : List LogRec → ℕ → Bool
undone log n = list_any (is_undo_of n) log

-- whether that number is a standing write of the transaction
abbrev pub stands_of : List LogRec → ℕ → ℕ → Bool
stands_of log txn n = is_write_of txn (record_at log n) && not (undone log n)

-- whether that number is a standing write at the RID
abbrev pub stands_at : List LogRec → Rid → ℕ → Bool
stands_at log rid n = is_write_at rid (record_at log n) && not (undone log n)

-- the transaction's newest standing write
abbrev pub newest_standing : List LogRec → ℕ → Option ℕ
newest_standing log txn = last_below (stands_of log txn) (length log + 1)

-- the newest standing write at the RID
abbrev pub newest_at : List LogRec → Rid → Option ℕ
newest_at log rid = last_below (stands_at log rid) (length log + 1)

-- how many writes of the transaction stand
abbrev pub standing_count : List LogRec → ℕ → ℕ
standing_count log txn = count_below (stands_of log txn) (length log + 1)

-- the transaction's last write below that number, standing or not
abbrev pub last_of : List LogRec → ℕ → ℕ → Option ℕ
last_of log txn n = last_below (λ k. is_write_of txn (record_at log k)) n

-- the last write at the RID below that number, standing or not
abbrev pub last_at : List LogRec → Rid → ℕ → Option ℕ
last_at log rid n = last_below (λ k. is_write_at rid (record_at log k)) n

-- the RID that a record writes at, if it is a write
abbrev pub place_of : Option LogRec → Option Rid
place_of None = None
place_of (Some (Write txn rid row)) = Some rid
place_of (Some (Undo txn n)) = None
place_of (Some (Commit txn)) = None
place_of (Some (Switch verdicts)) = None

-- the transaction of a write
abbrev pub txn_of : Option LogRec → ℕ
txn_of None = 0
txn_of (Some (Write txn rid row)) = txn
txn_of (Some (Undo txn n)) = 0
txn_of (Some (Commit txn)) = 0
txn_of (Some (Switch verdicts)) = 0

-- the RID of a write
abbrev pub rid_of : Option LogRec → Rid
rid_of None = record { page = 0; slot = 0 }
rid_of (Some (Write txn rid row)) = rid
rid_of (Some (Undo txn n)) = record { page = 0; slot = 0 }
rid_of (Some (Commit txn)) = record { page = 0; slot = 0 }
rid_of (Some (Switch verdicts)) = record { page = 0; slot = 0 }

-- the newest standing write before that write, at the same RID
abbrev pub standing_before : List LogRec → ℕ → Option ℕ
standing_before log n = last_below (stands_at log (rid_of (record_at log n))) n

-- the row that a record leaves at its RID
abbrev pub row_of : Option LogRec → Option (List Cell)
row_of None = None
row_of (Some (Write txn rid row)) = row
row_of (Some (Undo txn n)) = None
row_of (Some (Commit txn)) = None
row_of (Some (Switch verdicts)) = None

-- the row of the write of that number, if there is one
abbrev pub row_at : List LogRec → Option ℕ → Option (List Cell)
row_at log None = None
row_at log (Some n) = row_of (record_at log n)

-- the row that stands at the RID: that of the newest standing write there
abbrev pub live_at : List LogRec → Rid → Option (List Cell)
live_at log rid = row_at log (newest_at log rid)

-- the number is that of a write
pub record IsWrite (log : List LogRec) (n : ℕ) : Type 0 where
  pub low : 1 ≤ n
  pub high : n ≤ length log
  pub write : IsSome (place_of (record_at log n))

-- an undo names a record that is there already
abbrev pub NamesEarlier : ℕ → LogRec → Type 0
NamesEarlier count (Write txn rid row) = Unit {0}
NamesEarlier count (Undo txn n) = (1 ≤ n) × (n ≤ count)
NamesEarlier count (Commit txn) = Unit {0}
NamesEarlier count (Switch verdicts) = Unit {0}

-- whether there is a number, and it is n
abbrev pub is_number : ℕ → Option ℕ → Bool
is_number n None = false
is_number n (Some m) = m == n

-- A log that grows: its beginnings, the record that is added, and what it changes.
use Rattle.std.specs.Prelude.{◌≡◌, ℕ, ◌==◌, Bool, false, List, [], ◌∷◌, ◌++◌, take, Option, Some, None}
use Rattle.std.specs.List.{slice_get}
use Rattle.keybytes.specs.declared.rid.Rid.{Rid}
use Rattle.heap_log.specs.declared.record.LogRec.{LogRec}
use Rattle.heap_log.specs.declared.record.LogRec.TheVariants.{Write, Undo, Commit, Switch}
use Rattle.heap_log.specs.Standing.{record_at, place_of, is_write_of, NamesEarlier}

-- the log as it was when it had that many records
abbrev pub first_records : ℕ → List LogRec → List LogRec
first_records n log = take n log

-- each undo names a record that comes before it
abbrev pub UndoesNameEarlier : List LogRec → Type 0
UndoesNameEarlier log = (n : ℕ) (rec : LogRec) → slice_get log n ≡ Some rec → NamesEarlier n rec

-- a log with one record more
pub record Added (old : List LogRec) (rec : LogRec) (new : List LogRec) : Type 0 where
  pub records : new ≡ old ++ rec ∷ []
  pub earlier : UndoesNameEarlier new

-- the RID whose row a record may change, if any: where it writes, or where the write was that it undoes
abbrev pub changed_rid : List LogRec → LogRec → Option Rid
changed_rid log (Write txn rid row) = Some rid
changed_rid log (Undo txn n) = place_of (record_at log n)
changed_rid log (Commit txn) = None
changed_rid log (Switch verdicts) = None

-- whether the record is a write of the transaction, or undoes one of its writes
abbrev pub is_change_by : ℕ → List LogRec → LogRec → Bool
is_change_by txn log (Write t rid row) = t == txn
is_change_by txn log (Undo t n) = is_write_of txn (record_at log n)
is_change_by txn log (Commit t) = false
is_change_by txn log (Switch verdicts) = false

-- Who holds a RID, and how many bytes the RID keeps on its page meanwhile.
use Rattle.std.specs.Prelude.{ℕ, max, nat_lt, Bool, false, ◌&&◌, not, ◌==◌, if◌then◌else◌, List, [], ◌∷◌, length, Option, Some, None}
use Rattle.std.specs.List.{list_any, filter_map, find}
use Rattle.keybytes.specs.Rows.{row_bytes}
use Rattle.keybytes.specs.declared.cell.Cell.{Cell}
use Rattle.keybytes.specs.declared.rid.Rid.{Rid}
use Rattle.heap_log.specs.declared.record.LogRec.{LogRec}
use Rattle.heap_log.specs.declared.record.LogRec.TheVariants.{Write, Undo, Commit, Switch}
use Rattle.keybytes.specs.Rids.{same_rid}
use Rattle.heap_log.specs.Standing.{is_write_of, is_write_at, standing_count, row_of, live_at}

-- whether the record is a write of the transaction at the RID
abbrev pub writes : ℕ → Rid → LogRec → Bool
writes txn rid rec = is_write_of txn (Some rec) && is_write_at rid (Some rec)

-- whether the transaction has a write at the RID, standing or undone
abbrev pub wrote : List LogRec → ℕ → Rid → Bool
wrote log txn rid = list_any (writes txn rid) log

-- whether the record is the transaction's commit
abbrev pub is_commit_of : ℕ → LogRec → Bool
is_commit_of txn (Write writer rid row) = false
is_commit_of txn (Undo t n) = false
is_commit_of txn (Commit t) = t == txn
is_commit_of txn (Switch verdicts) = false

-- whether the transaction has committed
abbrev pub committed : List LogRec → ℕ → Bool
committed log txn = list_any (is_commit_of txn) log

-- whether the transaction has a standing write and has not committed
abbrev pub is_busy : List LogRec → ℕ → Bool
is_busy log txn = nat_lt 0 (standing_count log txn) && not (committed log txn)

-- the transaction of a record that is a write at the RID
abbrev pub writer_at : Rid → LogRec → Option ℕ
writer_at place (Write txn rid row) = if same_rid rid place then Some txn else None
writer_at place (Undo txn n) = None
writer_at place (Commit txn) = None
writer_at place (Switch verdicts) = None

-- the holder of a RID: the busy transaction with a write there, standing or undone
abbrev pub holder : List LogRec → Rid → Option ℕ
holder log rid = find (is_busy log) (filter_map (writer_at rid) log)

-- the bytes of a row, if there is one
abbrev pub row_size : Option (List Cell) → ℕ
row_size None = 0
row_size (Some cells) = length (row_bytes cells)

-- the log before the transaction's first write at the RID
abbrev pub before_first : ℕ → Rid → List LogRec → List LogRec
before_first txn rid [] = []
before_first txn rid (rec ∷ log) = if writes txn rid rec then [] else rec ∷ before_first txn rid log

-- the bytes of the row that the record leaves, if it is a write of the transaction at the RID
abbrev pub size_written : ℕ → Rid → LogRec → ℕ
size_written txn rid rec = if writes txn rid rec then row_size (row_of (Some rec)) else 0

-- the bytes of the greatest row that the transaction wrote at the RID
abbrev pub greatest_written : ℕ → Rid → List LogRec → ℕ
greatest_written txn rid [] = 0
greatest_written txn rid (rec ∷ log) = max (size_written txn rid rec) (greatest_written txn rid log)

-- the bytes that a RID keeps under that holder: those of the row that stood before the holder's first write there, or
-- of the greatest row that the holder wrote there; under no holder those of the row that stands
abbrev pub room_held_by : Option ℕ → List LogRec → Rid → ℕ
room_held_by None log rid = row_size (live_at log rid)
room_held_by (Some txn) log rid = max (row_size (live_at (before_first txn rid log) rid)) (greatest_written txn rid log)

-- the bytes that a RID keeps on its page
abbrev pub room_needed : List LogRec → Rid → ℕ
room_needed log rid = room_held_by (holder log rid) log rid
